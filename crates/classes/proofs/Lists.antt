-- Which nodes do the classes so far make, and what does one class more change?
use mathlib.Core.Path.{◌≡◌, refl, ap, ◌∙◌}
use mathlib.Core.List.{List, [], ◌∷◌, ◌++◌, map}
use Prim.Native.Nat.{ℕ, zero, suc, ◌+◌, ◌<◌}
use native.Mathlib.Nat.{zero-add}
use native.Mathlib.Numerals.{add-one}
use native.Mathlib.Omega.{arith}
use lib.IntN.{ℤ, pos}
use lib.ListN.{length, get_or, set}
use lib.Seq.{get_or-set_same, get_or-set_other}
use Rattle.laws.specs.Lists.{from}
use Rattle.laws.proofs.Each.{Each, each_map, each_from}
use Rattle.meaning.specs.Diagram.{Node}
use Rattle.lent.proofs.Places.{made_at, made_long}
use Rattle.lent.proofs.FirstOrder.{Zero}
use Rattle.classes.specs.Classes.{state_at, classes_in, no_node}

-- ---- what a function makes of some numbers
module _ {A : Type 0} where
  made_same : (f g : ℕ → A) (k n : ℕ) → ((v : ℕ) → v < k + n → f v ≡ g v) → map f (from k n) ≡ map g (from k n)
  made_same f g k zero h = refl
  made_same f g k (suc n) h =
      let first = h k (omega arith) in
      let rest = made_same f g (suc k) n (λ v b. h v (omega arith)) in
      λ i. first i ∷ rest i

  made_more : (f : ℕ → A) (k n : ℕ) → map f (from k (suc n)) ≡ map f (from k n) ++ f (k + n) ∷ []
  made_more f k zero = let e : k + 0 ≡ k = omega arith in rw e
  made_more f k (suc n) =
      let e : k + suc n ≡ suc k + n = omega arith in
      ap (λ (l : List A). f k ∷ l) (made_more f (suc k) n ∙ rw e)

-- ---- classes
abbrev class : List ℤ → List ℤ → List ℕ → ℕ → Node
class here row firsts k = (state_at here row (get_or firsts k 0), pos 0)

module _ (here row : List ℤ) (firsts : List ℕ) where
  pub classes_long : (count : ℕ) → length (classes_in here row firsts count) ≡ count
  classes_long count = made_long (class here row firsts) count

  pub class_is : (count k : ℕ) → k < count → get_or (classes_in here row firsts count) k no_node ≡ (state_at here row (get_or firsts k 0), pos 0)
  class_is count k h = made_at (class here row firsts) count k no_node h

  pub classes_zero : (count : ℕ) → Each Zero (classes_in here row firsts count)
  classes_zero count = each_map (λ k. k < count) Zero (class here row firsts) (λ k h. refl) (from 0 count) (each_from (λ k. k < count) 0 count (λ k h. omega arith))

  -- one more
  pub classes_next : (count : ℕ) → classes_in here row firsts (count + 1) ≡ classes_in here row firsts count ++ (state_at here row (get_or firsts count 0), pos 0) ∷ []
  classes_next count = rw add-one (made_more (class here row firsts) 0 count ∙ rw (zero-add count))

-- a first child stored
pub classes_more : (here row : List ℤ) (firsts : List ℕ) (count f : ℕ) → count < length firsts
    → classes_in here row (set firsts count f) (count + 1) ≡ classes_in here row firsts count ++ (state_at here row f, pos 0) ∷ []
classes_more here row firsts count f h =
    let same = made_same (class here row (set firsts count f)) (class here row firsts) 0 count (λ v b. rw (get_or-set_other firsts count v f 0 (λ e. absurd (omega arith)))) in
    classes_next here row (set firsts count f) count ∙ rw (get_or-set_same firsts count f 0 h) (ap (λ (l : List Node). l ++ (state_at here row f, pos 0) ∷ []) same)
