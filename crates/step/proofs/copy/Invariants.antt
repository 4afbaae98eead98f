-- `copy` meets its contract: a turn copies one step.
use Rattle.laws.proofs.Reached.{Reached}
use Rattle.step.proofs.copy.Given as goal

abbrev pub invariant-loop-k : goal.invariant-loop-k
invariant-loop-k l = Reached l.from l.initial.to l.to l.k
