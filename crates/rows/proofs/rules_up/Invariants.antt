-- `rules_up` meets its contract: a turn stores one rule's numbers beside those that stand there.
use Rattle.lent.specs.Passes.{down_lanes}
use Rattle.rows.proofs.Cells.{Stored}
use Rattle.rows.proofs.rules_up.Given as goal

abbrev pub invariant-loop-r : goal.invariant-loop-r
invariant-loop-r l = Stored l.m (down_lanes l.m l.fn.cells) l.up l.fn.cells l.cells l.r
