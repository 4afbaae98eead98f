-- `copy` meets its contract: a turn copies one lane.
use Rattle.laws.proofs.Reached.{Reached}
use Rattle.rows.proofs.copy.Given as goal

abbrev pub invariant-loop-k : goal.invariant-loop-k
invariant-loop-k l = Reached l.from l.initial.to l.to l.k
