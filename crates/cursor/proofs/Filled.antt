-- Fields in the first places of an array: one more, and all of them.
use mathlib.Core.Path.{◌≡◌, refl, sym, ap, ◌∙◌}
use mathlib.Core.List.{List, ◌∷◌, map}
use Prim.Native.Nat.{ℕ, zero, suc, ◌+◌, ◌*◌, ◌≤◌, ◌<◌}
use native.Mathlib.Nat.{not-suc-le-zero, le_of_suc-le-suc, zero-mul, suc-mul}
use native.Mathlib.Omega.{arith}
use lib.ListN.{set, take, drop}
use lib.Seq.{drop-drop}
use Rattle.laws.specs.Lists.{parted, padded}
use Rattle.laws.proofs.Filled.{take-padded}
use Rattle.laws.proofs.Parts.{length_fields}

module _ {A B : Type 0} (g : List A → B) (z : B) (k : ℕ) where
  -- the next goes to its place
  pub field_more : (n i : ℕ) (l : List A) → i < n → set (padded n z (map g (parted i k l))) i (g (take k (drop (i * k) l))) ≡ padded n z (map g (parted (suc i) k l))
  field_more zero i l h = absurd (not-suc-le-zero h)
  field_more (suc n) zero l h = rw (zero-mul k) refl
  field_more (suc n) (suc i) l h =
      let place : k + i * k ≡ suc i * k = omega (arith, suc-mul i k) in
      let behind = rw (drop-drop (i * k) k l, place) at (field_more n i (drop k l) (le_of_suc-le-suc h)) in
      ap (λ (r : List B). g (take k l) ∷ r) behind

  -- they are the first n, and what stands behind them is blank
  pub fields_front : (m n : ℕ) (l : List A) {v : List B} → n ≤ m → v ≡ padded m z (map g (parted n k l)) → (take n v ≡ map g (parted n k l)) × (v ≡ padded m z (take n v))
  fields_front m n l {v} h e =
      let fields = map g (parted n k l) in
      let count = length_fields g n k l in
      let front : take n v ≡ fields = ap (take n) e ∙ rw count at (take-padded z m fields (omega (arith, count))) in
      (front, e ∙ ap (padded m z) (sym front))
