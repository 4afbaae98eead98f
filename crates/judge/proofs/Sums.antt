-- What does a loop that sums over a plan hold at slot i, where each slot adds at most m?
use mathlib.Core.Path.{◌≡◌, ◌∙◌, ap}
use mathlib.Core.List.{List}
use Prim.Native.Nat.{ℕ, suc, ◌+◌, ◌*◌, ◌≤◌, ◌<◌}
use native.Mathlib.Nat.{mul-le-mul_left, mul-suc}
use native.Mathlib.Numerals.{add-one}
use native.Mathlib.Omega.{arith}
use lib.Dec.{T, leb, le→leb, leb→le}
use lib.ListN.{length, get_or, drop}
use lib.Seq.{drop-cons}
use lib.IntN.{ℤ, ◌+ℤ◌}
use Rattle.laws.specs.Z.{assoc, Within, sum_within, back, back_is}
use Rattle.meaning.specs.Plan.{summed}

pub record Sums (f : ℕ → ℕ → ℤ) (m : ℕ) (plan : List ℕ) (z : ℤ) (i : ℕ) : Type 0 where
  pub place : i ≤ length plan
  pub within : Within (m * i) z
  -- with what is left, the whole sum
  pub left : z +ℤ summed f i (drop i plan) ≡ summed f 0 plan

-- one slot more, which adds r, as the code adds it
module _ {f : ℕ → ℕ → ℤ} {m : ℕ} {plan : List ℕ} {z : ℤ} {i : ℕ} {r : ℤ} (s : Sums f m plan z i) (w : Within m r) (h : i < length plan) (k : length plan ≤ 24) (t : T (leb (m * 24) 2147483647)) where
  grown : Within (m * suc i) (z +ℤ r)
  grown = rw (mul-suc m i) (sum_within s.within w)

  small : Within 2147483647 (z +ℤ r)
  small =
      let most : suc i ≤ 24 = omega arith in
      record { size = omega (arith, grown.size, mul-le-mul_left m most, leb→le (m * 24) 2147483647 t) }

  told : back r ≡ r
  told = back_is w (le→leb m 2147483647 (omega (arith, leb→le (m * 24) 2147483647 t)))

  pub sums_more : r ≡ f i (get_or plan i 0) → Sums f m plan (back (z +ℤ back r)) (i + 1)
  sums_more e = rw (told, back_is small tt, add-one)
      (record {
        place = h;
        within = grown;
        left = assoc z r (summed f (suc i) (drop (suc i) plan)) ∙ ap (λ (y : ℤ). z +ℤ (y +ℤ summed f (suc i) (drop (suc i) plan))) e ∙ rw (drop-cons plan i 0 h) at s.left;
      })
