-- Each rule's share goes to its two places. The first r shares are laid.
use Rattle.reach.proofs.Steps.{Stepped}
use Rattle.reach.proofs.step_lanes.Given as goal

abbrev pub invariant-loop-r : goal.invariant-loop-r
invariant-loop-r l = Stepped l.fn.p.coefs l.fn.p.values l.v l.lanes l.r
