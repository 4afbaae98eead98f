-- `rules_room` meets its contract: a turn takes a rule's numbers from the limit.
use Rattle.rows.proofs.Free.{Roomed}
use Rattle.rows.proofs.rules_room.Given as goal

abbrev pub invariant-loop-r : goal.invariant-loop-r
invariant-loop-r l = Roomed l.m l.cells l.limit l.room l.r
