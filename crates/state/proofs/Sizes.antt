-- How many pairs does a state have, and how large are its totals?
use mathlib.Core.Path.{◌≡◌, sym, ap, ◌∙◌}
use mathlib.Core.List.{List, [], ◌∷◌, map}
use mathlib.Core.Bool.{Bool, true, false, cond}
use Prim.Native.Nat.{ℕ, ◌+◌, ◌≤◌}
use native.Mathlib.Omega.{arith}
use lib.IntN.{ℤ, neg_ℤ, nat_abs, ◌+ℤ◌, ◌-ℤ◌}
use lib.Signed.{le_z}
use lib.ListN.{length, length-map}
use mir.Syntax.{w32}
use mir.Val.{SFits}
use mir.Facts.{to_z-of_z}
use Rattle.laws.specs.Z.{neg, parts, Within, widen, sum_within, fits32, sum32, back, back_is}
use Rattle.laws.proofs.Each.{each_more}
use Rattle.meaning.specs.Diagram as paper
use Rattle.state.specs.declared.Pair.{Pair}
use Rattle.state.specs.Pairs.{pair_of, Inside, added}
use Rattle.state.proofs.Joined.{add, joined_length, joined_each, added_joined, merged_joined}

-- ---- lengths
-- of a struct's field that is an array of structs, as owning the struct tells it: `search mapped` where a function begins
pub mapped : {A B : Type 0} (g : A → B) (l : List A) (n : ℕ) → length (map g l) ≡ n → length l ≡ n
mapped g l n e = sym (length-map l g) ∙ e

pub pairs_long : (l : List Pair) → length l ≡ 8 → length (map pair_of l) ≡ 8
pairs_long l e = length-map l pair_of ∙ e

pub added_length : (t u : paper.State) → length t ≡ length u → length (added t u) ≡ length t
added_length t u e = ap length (added_joined t u) ∙ joined_length add t u e

pub merged_length : (t u : paper.State) → length t ≡ length u → length (paper.merged_state t u) ≡ length t
merged_length t u e = ap length (merged_joined t u e) ∙ joined_length paper.merged t u e

-- ---- totals
-- a number with its sign turned has the same size
pub neg_size : (z : ℤ) → nat_abs (neg_ℤ z) ≡ nat_abs z
neg_size z = omega (arith, neg z, parts z, parts (neg_ℤ z))

-- sums and differences of two totals fit, and are what code computes
module _ {a b : ℤ} (h : Within 10000000 a) (k : Within 10000000 b) where
  pub sum_fits : SFits w32 (back a +ℤ back b)
  sum_fits = rw (back_is h tt, back_is k tt) (sum32 h k tt)

  pub sum_back : back (back a +ℤ back b) ≡ a +ℤ b
  sum_back = to_z-of_z sum_fits ∙ rw (back_is h tt, back_is k tt)

  dif_within : Within 20000000 (a -ℤ b)
  dif_within = sum_within {n = 10000000} h (record { size = omega (arith, neg_size b, k.size) })

  pub dif_fits : SFits w32 (back a -ℤ back b)
  dif_fits = rw (back_is h tt, back_is k tt) (fits32 (widen tt dif_within))

  pub dif_back : back (back a -ℤ back b) ≡ a -ℤ b
  dif_back = to_z-of_z dif_fits ∙ rw (back_is h tt, back_is k tt)

-- what holds of two numbers holds of the one that a test takes
either : (P : ℤ → Type 0) (t : Bool) (a b : ℤ) → P a → P b → P (cond t a b)
either P true a b h k = h
either P false a b h k = k

module _ (a b : ℕ) where
  pub inside_more : a ≤ b → (t : paper.State) → Inside a t → Inside b t
  inside_more h t i =
      each_more (λ p. Within a p.0 × Within a p.1) (λ p. Within b p.0 × Within b p.1)
      (λ p k. (record { size = omega arith }, record { size = omega arith })) t i

  pub inside_added : (t u : paper.State) → Inside a t → Inside b u → Inside (a + b) (added t u)
  inside_added t u h k =
      rw (added_joined t u)
      (joined_each add (λ p. Within a p.0 × Within a p.1) (λ p. Within b p.0 × Within b p.1) (λ p. Within (a + b) p.0 × Within (a + b) p.1) (λ p q i j. (sum_within i.0 j.0, sum_within i.1 j.1)) t u h k)

pub inside_merged : (b : ℕ) (t u : paper.State) → Inside b t → Inside b u → Inside b (paper.merged_state t u)
inside_merged b [] u h k = k
inside_merged b (p ∷ t) [] h k = h
inside_merged b (p ∷ t) (q ∷ u) h k =
    let low = either (Within b) (le_z p.0 q.0) p.0 q.0 h.0.0 k.0.0 in
    let high = either (Within b) (le_z p.1 q.1) q.1 p.1 k.0.1 h.0.1 in
    ((low, high), inside_merged b t u h.1 k.1)
