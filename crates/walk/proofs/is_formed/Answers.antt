-- `is_formed` meets its contract: the bytes of the last slot begin behind those of n - 1 slots.
use mathlib.Core.Bool.{true≢false}
use mathlib.Core.Path.{◌≡◌, sym, subst, ◌∙◌}
use Prim.Native.Nat.{◌*◌, ◌-◌, ◌≤◌}
use native.Mathlib.Omega.{arith}
use borrow.Author.Tests.{ne_eqb}
use lib.ListN.{length, take, drop, length-drop}
use lib.Seq.{take_all}
use Rattle.laws.proofs.Each.{Each}
use Rattle.walk.proofs.Forming.{formed_of}
use Rattle.walk.proofs.is_formed.Goals as goal
use Rattle.walk.proofs.is_formed.Goals.{then-arcs-n, else-arcs-n}

pub returns-then-are_at_most : goal.returns-then-are_at_most
returns-then-are_at_most c =
    let a = c.args in
    let b = a.arcs.now in
    let k = 8 * (a.n - 1) * a.w in
    let last : take (length b - k) (drop k b) ≡ drop k b = take_all (length b - k) (drop k b) (omega (arith, length-drop k b)) in
    λ t q eight is.
    elim c.if-arcs-n.branch [
      | then-arcs-n x ↦ formed_of q a.n a.w b eight is c.requires.0 x.if-arcs-n.true (x.are_at_most.ensures (sym x.value-is ∙ c.if-are_at_most.true)) (subst (Each (λ y. y ≤ 1)) last (c.are_at_most-then-are_at_most.ensures t))
      | else-arcs-n x ↦ absurd (true≢false (sym c.if-are_at_most.true ∙ x.value-is ∙ ne_eqb _ _ x.if-arcs-n.false))
    ]
