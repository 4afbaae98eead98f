-- Functions on lists that compute.
use Rattle.std.specs.Prelude.{List, [], ◌∷◌, ◌++◌, Bool, true, false, ◌&&◌, cond, ℕ, zero, suc, eqb, take, drop}

module _ {A : Type 0} where
  -- the elements that pass a test
  abbrev pub keep : (A → Bool) → List A → List A
  keep f [] = []
  keep f (x ∷ xs) = cond (f x) (x ∷ keep f xs) (keep f xs)

  abbrev pub every : (A → Bool) → List A → Bool
  every f [] = true
  every f (x ∷ xs) = f x && every f xs

  -- the place of the first element that passes, or the length
  abbrev pub place : (A → Bool) → List A → ℕ
  place f [] = 0
  place f (x ∷ xs) = cond (f x) 0 (suc (place f xs))

  abbrev pub last_or : A → List A → A
  last_or d [] = d
  last_or d (x ∷ xs) = last_or x xs

  -- the first n of a list, filled up with d
  abbrev pub padded : ℕ → A → List A → List A
  padded zero d l = []
  padded (suc n) d [] = d ∷ padded n d []
  padded (suc n) d (x ∷ l) = x ∷ padded n d l

  -- n parts of k elements each
  abbrev pub parted : ℕ → ℕ → List A → List (List A)
  parted zero k l = []
  parted (suc n) k l = take k l ∷ parted n k (drop k l)

-- what f makes of each element, one behind the other
abbrev pub gather : {A B : Type 0} → (A → List B) → List A → List B
gather f [] = []
gather f (x ∷ xs) = f x ++ gather f xs

abbrev pub flat : {A : Type 0} → List (List A) → List A
flat ls = gather (λ l. l) ls

-- n numbers from v on
abbrev pub from : ℕ → ℕ → List ℕ
from v zero = []
from v (suc n) = v ∷ from (suc v) n

abbrev pub same : List ℕ → List ℕ → Bool
same [] [] = true
same [] (y ∷ ys) = false
same (x ∷ xs) [] = false
same (x ∷ xs) (y ∷ ys) = eqb x y && same xs ys
