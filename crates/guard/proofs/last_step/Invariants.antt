-- At each turn the greater of `last` and of the steps that are left is the greatest of the whole set.
use mathlib.Core.Path.{◌≡◌}
use Prim.Native.Nat.{max, ◌≤◌}
use lib.IntN.{pos}
use Rattle.meaning.specs.Plan.{steps_of}
use Rattle.meaning.specs.Running.{greatest_size}
use Rattle.guard.proofs.Steps.{left}
use Rattle.guard.proofs.last_step.Given as goal

abbrev pub invariant-loop-v : goal.invariant-loop-v
invariant-loop-v l = (l.last ≤ l.v) × (l.last ≤ 7) × (max l.last (left pos l.set l.v) ≡ greatest_size pos (steps_of 8 l.set))
