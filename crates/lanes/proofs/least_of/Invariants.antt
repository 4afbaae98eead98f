-- `least_of` meets its contract: a turn writes one least.
use Rattle.lent.specs.Lanes.{leasts}
use Rattle.laws.proofs.Reached.{Reached}
use Rattle.lanes.proofs.least_of.Given as goal

abbrev pub invariant-loop-k : goal.invariant-loop-k
invariant-loop-k l = Reached (leasts l.x l.y) l.fn.x l.z l.k
