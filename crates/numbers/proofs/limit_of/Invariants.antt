-- `limit_of` meets its contract: a turn writes the bounds of one rule.
use Rattle.slot.specs.Tables.{leasts_in, mosts_in}
use Rattle.numbers.proofs.Limit.{Bounds}
use Rattle.numbers.proofs.limit_of.Given as goal

abbrev pub invariant-loop-r : goal.invariant-loop-r
invariant-loop-r l = Bounds l.m (leasts_in l.coefs) (mosts_in l.coefs) l.limit l.r
