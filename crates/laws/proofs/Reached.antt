-- A loop that writes every place of a list: what stands there after the first k places?
use mathlib.Core.Path.{◌≡◌, refl, sym, ◌∙◌}
use mathlib.Core.List.{List}
use Prim.Native.Nat.{ℕ, ◌+◌, ◌≤◌, ◌<◌}
use native.Mathlib.Decide.{dec_lt}
use native.Mathlib.Omega.{arith}
use lib.ListN.{length, get_or, set, length-set}
use Rattle.std.proofs.lemmas.List.{ext_get_or, get_or_default, get_or-set_same, get_or-set_other}

-- the first k places as they are wanted, the others as they were
pub record Reached {X : Type 0} (want was now : List X) (k : ℕ) : Type 0 where
  pub long : length now ≡ length was
  pub done : (i : ℕ) (d : X) → i < k → get_or now i d ≡ get_or want i d
  pub left : (i : ℕ) (d : X) → k ≤ i → get_or now i d ≡ get_or was i d

pub reached_none : {X : Type 0} (want was : List X) → Reached want was was 0
reached_none want was = record { long = refl; done = λ i d h. absurd (omega arith); left = λ i d h. refl }

module _ {X : Type 0} {want was now : List X} {k : ℕ} (r : Reached want was now k) where
  -- one place more
  pub reached_more : (d y : X) → k < length now → k < length want → y ≡ get_or want k d → Reached want was (set now k y) (k + 1)
  reached_more d y h l e = record {
    long = length-set now k y ∙ r.long;
    done = λ i f b. elim (dec_lt i k) [
      | yes a ↦ get_or-set_other now k i y f (λ o. omega arith) ∙ r.done i f a
      | no a ↦ let o : i ≡ k = omega arith in rw o (get_or-set_same now k y f h ∙ e ∙ get_or_default want k d f l)
    ];
    left = λ i f b. get_or-set_other now k i y f (λ o. omega arith) ∙ r.left i f (omega arith);
  }

  -- the first places, where the others are to stay
  pub reached_end : (d : X) → length want ≡ length was → ((i : ℕ) → k ≤ i → get_or want i d ≡ get_or was i d) → now ≡ want
  reached_end d e rest = ext_get_or d now want (r.long ∙ sym e) (λ i b. elim (dec_lt i k) [
    | yes a ↦ r.done i d a
    | no a ↦ r.left i d (omega arith) ∙ sym (rest i (omega arith))
  ])

  -- all places
  pub reached_all : (d : X) → length now ≤ k → length want ≡ length was → now ≡ want
  reached_all d h e = ext_get_or d now want (r.long ∙ sym e) (λ i b. r.done i d (omega arith))
