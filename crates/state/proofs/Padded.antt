-- Are states of n places, zeros behind those of a problem's rules, summed, merged and tested as those of the rules alone?
use mathlib.Core.Path.{◌≡◌, refl, sym, ap, ◌∙◌}
use mathlib.Core.List.{List, [], ◌∷◌, map}
use mathlib.Core.Bool.{Bool, true, false, ◌&&◌}
use Prim.Native.Nat.{ℕ, zero, suc, ◌≤◌}
use native.Mathlib.Omega.{arith}
use lib.IntN.{ℤ, ◌+ℤ◌, ◌-ℤ◌}
use lib.Signed.{le_z}
use lib.ListN.{length, length-map}
use Rattle.laws.specs.Z.{zarith, sum, dif}
use Rattle.laws.specs.Lists.{padded}
use Rattle.laws.proofs.Filled.{length-padded}
use Rattle.meaning.specs.Plan.{Rule}
use Rattle.meaning.specs.Diagram.{Pair, State, eq_state, child, may_keep_all}
use Rattle.state.specs.Pairs.{Inside, added, lessened, fits_in}
use Rattle.state.proofs.Joined.{no_pair, joined, joined_length, joined-padded, add, lessen, equal_low, equal_high, fit_low, fit_high, both, all, added_joined, lessened_joined, equal_joined, fit_joined}

-- ---- by the rules
-- the shares of a step, as a state
abbrev pub share_of : ℕ → ℕ → Rule → Pair
share_of i v r = (r.share i v, r.share i v)

pub added_child : (rs : List Rule) (i v : ℕ) (t : State) → added t (map (share_of i v) rs) ≡ child rs i v t
added_child [] i v [] = refl
added_child [] i v (p ∷ t) = refl
added_child (r ∷ rs) i v [] = refl
added_child (r ∷ rs) i v (p ∷ t) = ap (λ (l : State). add p (share_of i v r) ∷ l) (added_child rs i v t)

-- the bounds of a rule: no low above ub, no high below lb
abbrev pub bounds_of : Rule → Pair
bounds_of r = (r.ub, r.lb)

-- a number and what is added to it, or the limit less that
low_moves : (a b c : ℤ) → le_z a (c -ℤ b) ≡ le_z (a +ℤ b) c
low_moves a b c = go (le_z (a +ℤ b) c) refl
  where
    go : (t : Bool) → le_z (a +ℤ b) c ≡ t → le_z a (c -ℤ b) ≡ t
    go true e = omega (zarith, sum a b, dif c b)
    go false e = omega (zarith, sum a b, dif c b)

high_moves : (a b c : ℤ) → le_z (c -ℤ b) a ≡ le_z c (a +ℤ b)
high_moves a b c = go (le_z c (a +ℤ b)) refl
  where
    go : (t : Bool) → le_z c (a +ℤ b) ≡ t → le_z (c -ℤ b) a ≡ t
    go true e = omega (zarith, sum a b, dif c b)
    go false e = omega (zarith, sum a b, dif c b)

-- the limit is the bounds less the reach
fit_keep : (rs : List Rule) (t e : State) → fits_in t (lessened (map bounds_of rs) e) ≡ may_keep_all rs t e
fit_keep [] [] e = refl
fit_keep [] (p ∷ t) e = refl
fit_keep (r ∷ rs) [] [] = refl
fit_keep (r ∷ rs) [] (x ∷ e) = refl
fit_keep (r ∷ rs) (p ∷ t) [] = refl
fit_keep (r ∷ rs) (p ∷ t) (x ∷ e) = λ i. (low_moves p.0 x.0 r.ub i && high_moves p.1 x.1 r.lb i) && fit_keep rs t e i

-- ---- filled up with zeros
all-padded : (n : ℕ) (l : List Bool) → length l ≤ n → all (padded n true l) ≡ all l
all-padded zero [] h = refl
all-padded zero (b ∷ l) h = absurd (omega arith)
all-padded (suc n) [] h = all-padded n [] (omega arith)
all-padded (suc n) (b ∷ l) h = ap (λ (c : Bool). b && c) (all-padded n l (omega arith))

module _ (n : ℕ) where
  pub added-padded : (t u : State) → length t ≡ length u → added (padded n no_pair t) (padded n no_pair u) ≡ padded n no_pair (added t u)
  added-padded t u e =
      added_joined (padded n no_pair t) (padded n no_pair u) ∙ joined-padded add n no_pair no_pair t u e ∙ ap (padded n no_pair) (sym (added_joined t u))

  lessened-padded : (t u : State) → length t ≡ length u → lessened (padded n no_pair t) (padded n no_pair u) ≡ padded n no_pair (lessened t u)
  lessened-padded t u e =
      lessened_joined (padded n no_pair t) (padded n no_pair u) ∙ joined-padded lessen n no_pair no_pair t u e ∙ ap (padded n no_pair) (sym (lessened_joined t u))

  both_long : (t u : State) → length (padded n no_pair t) ≡ length (padded n no_pair u)
  both_long t u = length-padded no_pair n t ∙ sym (length-padded no_pair n u)

  -- a test that two pairs of zeros pass
  tested_padded : (f : Pair → Pair → Bool) → f no_pair no_pair ≡ true → (t u : State) → length t ≡ length u → length t ≤ n → all (joined f (padded n no_pair t) (padded n no_pair u)) ≡ all (joined f t u)
  tested_padded f z t u e h =
      ap all (joined-padded f n no_pair no_pair t u e) ∙ rw z (all-padded n (joined f t u) (omega (arith, joined_length f t u e)))

  pub equal_padded : (t u : State) → length t ≡ length u → length t ≤ n → eq_state (padded n no_pair t) (padded n no_pair u) ≡ eq_state t u
  equal_padded t u e h =
      equal_joined (padded n no_pair t) (padded n no_pair u) (both_long t u) ∙ tested_padded (both equal_low equal_high) refl t u e h ∙ sym (equal_joined t u e)

  pub fit_padded : (rs : List Rule) (t e : State) → length t ≡ length rs → length e ≡ length rs → length rs ≤ n
      → fits_in (padded n no_pair t) (lessened (padded n no_pair (map bounds_of rs)) (padded n no_pair e)) ≡ may_keep_all rs t e
  fit_padded rs t e k l h =
      let same = length-map rs bounds_of in
      let limit = lessened (map bounds_of rs) e in
      let long : length limit ≡ length rs = ap length (lessened_joined (map bounds_of rs) e) ∙ joined_length lessen (map bounds_of rs) e (same ∙ sym l) ∙ same in
      ap (fits_in (padded n no_pair t)) (lessened-padded (map bounds_of rs) e (same ∙ sym l))
      ∙ fit_joined (padded n no_pair t) (padded n no_pair limit)
      ∙ tested_padded (both fit_low fit_high) refl t limit (k ∙ sym long) (omega arith)
      ∙ sym (fit_joined t limit)
      ∙ fit_keep rs t e

-- ---- totals
pub inside_padded : (b n : ℕ) (t : State) → Inside b t → Inside b (padded n no_pair t)
inside_padded b zero t h = tt
inside_padded b (suc n) [] h = ((record { size = omega arith }, record { size = omega arith }), inside_padded b n [] tt)
inside_padded b (suc n) (p ∷ t) h = (h.0, inside_padded b n t h.1)
