-- Which step does a loop over a node's bytes find? The first whose child's cost up, plus the price, is the node's own.
use mathlib.Core.Path.{◌≡◌, refl, sym, ap, ◌∙◌}
use mathlib.Core.List.{List}
use mathlib.Core.Bool.{true, false}
use Prim.Native.Nat.{ℕ, zero, suc, ◌+◌, ◌*◌, ◌-◌, ◌≤◌, ◌<◌}
use native.Mathlib.Omega.{arith}
use native.Mathlib.Numerals.{add-one}
use lib.ListN.{length, get_or, drop, drop_of_length-le}
use lib.Seq.{drop-cons}
use lib.IntN.{ℤ, pos, ◌+ℤ◌, ◌*ℤ◌}
use mir.Syntax.{w32}
use mir.Val.{SFits, of_z}
use Rattle.laws.specs.Z.{Within, back, back_is, sum32, eq_z_yes, eq_z_no, bits_eq}
use Rattle.laws.proofs.Each.{each_at}
use Rattle.diagram.specs.Leading.{reached_cell, first_cell, Led}

-- the place of a child's cost up
abbrev pub cost_at : ℕ → ℕ → ℕ
cost_at m b = (b - 1) * (4 * m + 3) + 4 * m + 2

module _ {m : ℕ} {weight : ℤ} {bs : List ℕ} {cells : List ℤ} (h : Led m weight bs cells) (v : ℕ) (few : v < 8) where
  abbrev byte : ℕ
  byte = get_or bs v 0

  byte_there : v < length bs
  byte_there = omega (arith, h.eight)

  abbrev child : ℤ
  child = get_or cells (cost_at m byte) (pos 0)

  child_within : Within 4000000 child
  child_within = each_at (Within 4000000) cells (cost_at m byte) (pos 0) (record { size = omega arith }) h.inside

  module _ {price : ℤ} (small : Within 70000 price) where
    both : back child +ℤ back price ≡ child +ℤ price
    both = λ i. back_is child_within tt i +ℤ back_is small tt i

    -- its sum with the price fits
    sum_fits : SFits w32 (back child +ℤ back price)
    sum_fits = rw both (sum32 child_within small tt)

    module _ (is : price ≡ weight *ℤ pos v) {cost : ℤ} (fits : SFits w32 cost) (some : 1 ≤ byte) where
      -- the sum is the cost
      pub step_stops : of_z w32 (back child +ℤ back price) ≡ of_z w32 cost → first_cell m weight cells cost v (drop v bs) ≡ v
      step_stops e =
          let same : child +ℤ weight *ℤ pos v ≡ cost = rw (← is) (sym both ∙ bits_eq sum_fits fits e) in
          rw (drop-cons bs v 0 byte_there, yes byte some same)
        where
          yes : (b : ℕ) → 1 ≤ b → get_or cells (cost_at m b) (pos 0) +ℤ weight *ℤ pos v ≡ cost → reached_cell m weight cells cost v b ≡ true
          yes zero s f = absurd (omega arith)
          yes (suc k) s f = let o : suc k - 1 ≡ k = omega arith in eq_z_yes (rw o at f)

      -- it is not
      pub step_goes : (of_z w32 (back child +ℤ back price) ≡ of_z w32 cost → ⊥) → first_cell m weight cells cost v (drop v bs) ≡ first_cell m weight cells cost (v + 1) (drop (v + 1) bs)
      step_goes e =
          rw (drop-cons bs v 0 byte_there, add-one v, no byte some (λ f. e (ap (of_z w32) {y = cost} (both ∙ rw is f))))
        where
          no : (b : ℕ) → 1 ≤ b → (get_or cells (cost_at m b) (pos 0) +ℤ weight *ℤ pos v ≡ cost → ⊥) → reached_cell m weight cells cost v b ≡ false
          no zero s f = refl
          no (suc k) s f = let o : suc k - 1 ≡ k = omega arith in eq_z_no (rw o at f)

  -- there is no arc
  pub step_skips : byte ≡ 0 → (cost : ℤ) → first_cell m weight cells cost v (drop v bs) ≡ first_cell m weight cells cost (v + 1) (drop (v + 1) bs)
  step_skips e cost = rw (drop-cons bs v 0 byte_there, add-one v, e)

pub steps_end : {m : ℕ} {weight : ℤ} {bs : List ℕ} {cells : List ℤ} → Led m weight bs cells → (cost : ℤ) → first_cell m weight cells cost 8 (drop 8 bs) ≡ 8
steps_end {bs = bs} h cost = rw (drop_of_length-le bs {i = 8} (omega (arith, h.eight)))
