-- `sum_of` meets its contract: a turn writes one sum.
use Rattle.lent.specs.Lanes.{sums}
use Rattle.laws.proofs.Reached.{Reached}
use Rattle.lanes.proofs.sum_of.Given as goal

abbrev pub invariant-loop-k : goal.invariant-loop-k
invariant-loop-k l = Reached (sums l.x l.y) l.fn.x l.z l.k
