-- Step by step the least of the lanes so far and the step's. What is left to do gives the least over the whole set.
use Rattle.reach.specs.Spans.{step_lanes}
use Rattle.reach.proofs.Spans.{Spanned}
use Rattle.reach.proofs.span.Given as goal

abbrev pub invariant-loop-v : goal.invariant-loop-v
invariant-loop-v l = Spanned (step_lanes l.fn.p.coefs l.fn.p.values) l.set l.v l.least
