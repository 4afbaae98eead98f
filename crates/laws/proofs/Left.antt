-- A loop over a list: what is left to test, from place i on, decides as the whole did.
use mathlib.Core.Path.{◌≡◌, refl, sym, ap, ◌∙◌}
use mathlib.Core.List.{List, [], ◌∷◌, map}
use mathlib.Core.Bool.{Bool, true, false, ◌&&◌}
use Prim.Native.Nat.{ℕ, ◌+◌, ◌≤◌, ◌<◌}
use native.Mathlib.Numerals.{add-one}
use native.Mathlib.Nat.{zero-add}
use lib.ListN.{length, get_or, drop, drop_of_length-le}
use lib.Seq.{drop-cons}
use Rattle.laws.specs.Lists.{every, from}
use Rattle.laws.proofs.Lists.{length_from, get_or-from}

module _ {A : Type 0} (p : A → Bool) (l : List A) (d : A) where
  -- at place i
  next : (i : ℕ) → i < length l → every p (drop i l) ≡ (p (get_or l i d) && every p (drop (i + 1) l))
  next i h = rw (drop-cons l i d h, add-one) refl

  pub every_goes : (i : ℕ) → i < length l → p (get_or l i d) ≡ true → every p l ≡ every p (drop i l) → every p l ≡ every p (drop (i + 1) l)
  every_goes i h t e = e ∙ next i h ∙ ap (λ (b : Bool). b && every p (drop (i + 1) l)) t

  pub every_stops : (i : ℕ) → i < length l → p (get_or l i d) ≡ false → every p l ≡ every p (drop i l) → false ≡ every p l
  every_stops i h t e = sym (e ∙ next i h ∙ ap (λ (b : Bool). b && every p (drop (i + 1) l)) t)

  pub every_ends : (i : ℕ) → length l ≤ i → every p l ≡ every p (drop i l) → true ≡ every p l
  every_ends i h e = sym (e ∙ ap (every p) (drop_of_length-le l h))

-- the same over the places below m
module _ (p : ℕ → Bool) (m : ℕ) where
  here : (k : ℕ) (t : Bool) → k < m → p k ≡ t → p (get_or (from 0 m) k 0) ≡ t
  here k t h e = rw (get_or-from 0 m k h, zero-add) e

  there : (k : ℕ) → k < m → k < length (from 0 m)
  there k h = rw (length_from 0 m) h

  pub places_go : (k : ℕ) → k < m → p k ≡ true → every p (from 0 m) ≡ every p (drop k (from 0 m)) → every p (from 0 m) ≡ every p (drop (k + 1) (from 0 m))
  places_go k h t e = every_goes p (from 0 m) 0 k (there k h) (here k true h t) e

  pub places_stop : (k : ℕ) → k < m → p k ≡ false → every p (from 0 m) ≡ every p (drop k (from 0 m)) → false ≡ every p (from 0 m)
  places_stop k h t e = every_stops p (from 0 m) 0 k (there k h) (here k false h t) e

  pub places_end : (k : ℕ) → m ≤ k → every p (from 0 m) ≡ every p (drop k (from 0 m)) → true ≡ every p (from 0 m)
  places_end k h e = every_ends p (from 0 m) 0 k (rw (length_from 0 m) h) e

-- a test of what f makes of each
pub every_map : {A B : Type 0} (p : B → Bool) (f : A → B) (l : List A) → every p (map f l) ≡ every (λ x. p (f x)) l
every_map p f [] = refl
every_map p f (x ∷ l) = ap (λ (b : Bool). p (f x) && b) (every_map p f l)
