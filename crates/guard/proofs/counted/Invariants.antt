-- While no step is counted, the steps that are left have the greatest share of the whole set.
use mathlib.Core.Path.{◌≡◌}
use Rattle.meaning.specs.Plan.{steps_of}
use Rattle.meaning.specs.Problem.{among, share_of}
use Rattle.meaning.specs.Running.{greatest_size}
use Rattle.guard.proofs.Steps.{left}
use Rattle.guard.proofs.counted.Given as goal

abbrev pub invariant-loop-v : goal.invariant-loop-v
invariant-loop-v l = let f = share_of (among l.values l.slots) l.i in left f l.set l.v ≡ greatest_size f (steps_of 8 l.set)
