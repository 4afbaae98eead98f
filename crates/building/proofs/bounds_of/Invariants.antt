-- `bounds_of` meets its contract: a turn stores one rule's bounds.
use Rattle.building.proofs.Bounds.{Bounded}
use Rattle.building.proofs.bounds_of.Given as goal

abbrev pub invariant-loop-r : goal.invariant-loop-r
invariant-loop-r l = Bounded l.m l.coefs l.at l.r
