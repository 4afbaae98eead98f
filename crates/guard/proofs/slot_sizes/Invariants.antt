-- At each turn the sum, with the sizes of the slots that are left, is the sum over all of them.
use mathlib.Core.Path.{◌≡◌}
use Prim.Native.Nat.{◌+◌, ◌*◌, ◌≤◌}
use lib.ListN.{length, drop}
use Rattle.meaning.specs.Problem.{share_of}
use Rattle.meaning.specs.Running.{sizes}
use Rattle.problem.specs.Held.{said_terms}
use Rattle.guard.specs.Size.{size_in}
use Rattle.guard.proofs.slot_sizes.Given as goal

abbrev pub invariant-loop-i : goal.invariant-loop-i
invariant-loop-i l = record {
  most : l.sum ≤ 15032385536 * l.i;
  left : l.sum + sizes 8 (share_of (said_terms (length l.sets) l.terms)) l.i (drop l.i l.sets) ≡ size_in l.sets l.terms;
}
