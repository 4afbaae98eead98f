-- `rules_down` meets its contract: a turn stores one rule's numbers.
use lib.ListN.{replicate}
use lib.IntN.{pos}
use Rattle.rows.proofs.Cells.{Stored}
use Rattle.rows.proofs.rules_down.Given as goal

abbrev pub invariant-loop-r : goal.invariant-loop-r
invariant-loop-r l = Stored l.m l.down (replicate 17 (pos 0)) l.initial.cells l.cells l.r
