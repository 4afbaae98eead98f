-- The recursion: along the start's own step, then a loop over the steps. The invariant says that what is left from step v on gives the whole.
use mathlib.Core.Path.{◌≡◌}
use Prim.Native.Nat.{ℕ}
use lib.ListN.{length}
use mathlib.Core.List.{List}
use lib.IntN.{ℤ}
use Rattle.walk.proofs.Paces.{Stage}
use Rattle.walk.proofs.+node.Given as goal

abbrev pub decreases-node : goal.decreases-node
decreases-node l = l.left

-- whatever stood at entry: where the walk was right when the loop began, it is
abbrev pub invariant-loop-v : goal.invariant-loop-v
invariant-loop-v l =
    (tr : List ℤ) (pl pg : List ℕ) (s : ℕ) → length tr ≡ 225 → Stage l.slots l.rules l.width l.room l.coefs l.values l.arcs l.cells l.own l.i l.j tr pl pg s l.initial.trail l.initial.plan l.initial.page l.initial.count l.initial.v
    → Stage l.slots l.rules l.width l.room l.coefs l.values l.arcs l.cells l.own l.i l.j tr pl pg s l.trail l.plan l.page l.count l.v
