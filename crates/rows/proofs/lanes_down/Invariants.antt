-- `lanes_down` meets its contract: a turn takes one rule's numbers.
use Rattle.lent.specs.Passes.{down_lanes}
use Rattle.lanes.proofs.Laws.{Halved}
use Rattle.rows.proofs.lanes_down.Given as goal

abbrev pub invariant-loop-r : goal.invariant-loop-r
invariant-loop-r l = Halved (down_lanes l.m l.cells) l.x l.m l.r
