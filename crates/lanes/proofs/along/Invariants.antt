-- `along` meets its contract: a turn adds one share to its low and takes it from its high; the price is added last.
use Rattle.lent.specs.Lanes.{sums, arc_at}
use Rattle.lanes.proofs.Laws.{Halved}
use Rattle.lanes.proofs.along.Given as goal

abbrev pub invariant-loop-k : goal.invariant-loop-k
invariant-loop-k l = Halved (sums l.x (arc_at l.row l.v)) l.z 8 l.k
