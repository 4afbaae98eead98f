-- What is true of rows of the same length one behind the other, and of lists that are filled up?
use mathlib.Core.Path.{◌≡◌, refl, ap, ◌∙◌}
use mathlib.Core.List.{List, [], ◌∷◌, ◌++◌, map, map-append}
use mathlib.Core.Bool.{Bool, true, false, ◌&&◌}
use Prim.Native.Nat.{ℕ, zero, suc, ◌+◌, ◌*◌, ◌≤◌, ◌<◌}
use native.Mathlib.Nat.{zero-mul, suc-mul}
use native.Mathlib.Omega.{arith}
use lib.ListN.{length, get_or, take, drop, replicate}
use Rattle.laws.specs.Lists.{every, gather, flat, from, padded}
use Rattle.laws.proofs.Each.{Each}

-- ---- numbers
from_append : (k a b : ℕ) → from k (a + b) ≡ from k a ++ from (k + a) b
from_append k zero b = let o : k + 0 ≡ k = omega arith in let e : 0 + b ≡ b = omega arith in rw (o, e)
from_append k (suc a) b =
    let o : k + suc a ≡ suc k + a = omega arith in
    let e : suc a + b ≡ suc (a + b) = omega arith in
    rw (o, e) (ap (λ (l : List ℕ). k ∷ l) (from_append (suc k) a b))

module _ {B : Type 0} (f g : ℕ → B) where
  -- f from one place on makes what g makes from another on
  made_from : (j k n : ℕ) → ((v : ℕ) → v < n → f (j + v) ≡ g (k + v)) → map f (from j n) ≡ map g (from k n)
  made_from j k zero h = refl
  made_from j k (suc n) h =
      let a : j + 0 ≡ j = omega arith in
      let b : k + 0 ≡ k = omega arith in
      let first : f j ≡ g k = rw (a, b) at (h 0 (omega arith)) in
      let rest : map f (from (suc j) n) ≡ map g (from (suc k) n) = made_from (suc j) (suc k) n (λ v l. let c : suc j + v ≡ j + suc v = omega arith in let d : suc k + v ≡ k + suc v = omega arith in rw (c, d) (h (suc v) (omega arith))) in
      λ i. first i ∷ rest i

-- what f makes of the places of rows of k, one behind the other
module _ {A B : Type 0} (f : ℕ → B) (g : A → ℕ → B) (k : ℕ) (d : A) where
  rows_from : (o : ℕ) (l : List A) → ((j v : ℕ) → j < length l → v < k → f (o + (j * k + v)) ≡ g (get_or l j d) v) → map f (from o (length l * k)) ≡ flat (map (λ x. map (g x) (from 0 k)) l)
  rows_from o [] h = let z : 0 * k ≡ 0 = zero-mul k in rw z
  rows_from o (x ∷ l) h =
      let size : suc (length l) * k ≡ k + length l * k = omega (arith, suc-mul (length l) k) in
      let first : map f (from o k) ≡ map (g x) (from 0 k) = made_from f (g x) o 0 k (λ v b. let e : o + v ≡ o + (0 * k + v) = omega (arith, zero-mul k) in let z : 0 + v ≡ v = omega arith in rw (e, z) (h 0 v (omega arith) b)) in
      let rest : map f (from (o + k) (length l * k)) ≡ flat (map (λ y. map (g y) (from 0 k)) l) = rows_from (o + k) l (λ j v a b. let e : o + k + (j * k + v) ≡ o + (suc j * k + v) = omega (arith, suc-mul j k) in rw e (h (suc j) v (omega arith) b)) in
      ap (λ n. map f (from o n)) size ∙ ap (map f) (from_append o k (length l * k)) ∙ map-append f (from o k) (from (o + k) (length l * k)) ∙ (λ i. first i ++ rest i)

  pub rows_made : (l : List A) → ((j v : ℕ) → j < length l → v < k → f (j * k + v) ≡ g (get_or l j d) v) → map f (from 0 (length l * k)) ≡ flat (map (λ x. map (g x) (from 0 k)) l)
  rows_made l h = rows_from 0 l (λ j v a b. let e : 0 + (j * k + v) ≡ j * k + v = omega arith in rw e (h j v a b))

-- ---- rows
pub map-flat : {A B : Type 0} (f : A → B) (l : List (List A)) → map f (flat l) ≡ flat (map (map f) l)
map-flat f [] = refl
map-flat f (x ∷ l) = map-append f x (flat l) ∙ ap (λ (r : List _). map f x ++ r) (map-flat f l)

pub gather-map : {A B C : Type 0} (f : B → List C) (g : A → B) (l : List A) → gather f (map g l) ≡ gather (λ x. f (g x)) l
gather-map f g [] = refl
gather-map f g (x ∷ l) = ap (λ (r : List _). f (g x) ++ r) (gather-map f g l)

module _ {A : Type 0} (P : A → Type 0) where
  pub each_left : (l m : List A) → Each P (l ++ m) → Each P l
  each_left [] m h = tt
  each_left (x ∷ l) m h = (h.0, each_left l m h.1)

  pub each_right : (l m : List A) → Each P (l ++ m) → Each P m
  each_right [] m h = h
  each_right (x ∷ l) m h = each_right l m h.1

-- one test more
pub every_more : {A : Type 0} (p : A → Bool) (l : List A) (x : A) → every p (l ++ x ∷ []) ≡ (every p l && p x)
every_more p [] x = go (p x)
  where
    go : (t : Bool) → (t && true) ≡ t
    go true = refl
    go false = refl
every_more p (y ∷ l) x = ap (λ (t : Bool). p y && t) (every_more p l x) ∙ go (p y)
  where
    go : (t : Bool) → (t && (every p l && p x)) ≡ ((t && every p l) && p x)
    go true = refl
    go false = refl

-- ---- lists that are filled up
pub zeros_map : (f : ℕ → ℕ) → f 0 ≡ 0 → (k n : ℕ) → map f (drop k (replicate n 0)) ≡ drop k (replicate n 0)
zeros_map f e zero zero = refl
zeros_map f e zero (suc n) = let rest = zeros_map f e zero n in λ i. e i ∷ rest i
zeros_map f e (suc k) zero = refl
zeros_map f e (suc k) (suc n) = zeros_map f e k n

module _ {A : Type 0} (z : A) where
  -- what stands before the rest of an array of z
  pub padded_front : (n : ℕ) (l : List A) → length l ≤ n → l ++ drop (length l) (replicate n z) ≡ padded n z l
  padded_front zero [] h = refl
  padded_front (suc n) [] h = ap (λ (r : List A). z ∷ r) (padded_front n [] (omega arith))
  padded_front zero (x ∷ l) h = absurd (omega arith)
  padded_front (suc n) (x ∷ l) h = ap (λ (r : List A). x ∷ r) (padded_front n l (omega arith))

  zeros_first : (k n : ℕ) → k ≤ n → take k (padded n z []) ≡ replicate k z
  zeros_first zero n h = refl
  zeros_first (suc k) zero h = absurd (omega arith)
  zeros_first (suc k) (suc n) h = ap (λ (r : List A). z ∷ r) (zeros_first k n (omega arith))

  -- what stands behind the list
  pub padded_behind : (n k : ℕ) (l : List A) → length l + k ≤ n → take k (drop (length l) (padded n z l)) ≡ replicate k z
  padded_behind n k [] h = zeros_first k n (omega arith)
  padded_behind zero k (x ∷ l) h = absurd (omega arith)
  padded_behind (suc n) k (x ∷ l) h = padded_behind n k l (omega arith)

  padded_row : (a b : ℕ) (x l : List A) → length x ≡ a → padded (a + b) z (x ++ l) ≡ x ++ padded b z l
  padded_row zero b [] l e = let o : 0 + b ≡ b = omega arith in rw o
  padded_row zero b (y ∷ x) l e = absurd (omega arith)
  padded_row (suc a) b [] l e = absurd (omega arith)
  padded_row (suc a) b (y ∷ x) l e = let o : suc a + b ≡ suc (a + b) = omega arith in rw o (ap (λ (r : List A). y ∷ r) (padded_row a b x l (omega arith)))

  padded_zeros : (a b : ℕ) → padded (a + b) z [] ≡ replicate a z ++ padded b z []
  padded_zeros zero b = let o : 0 + b ≡ b = omega arith in rw o
  padded_zeros (suc a) b = let o : suc a + b ≡ suc (a + b) = omega arith in rw o (ap (λ (r : List A). z ∷ r) (padded_zeros a b))

  -- rows of k, filled up with rows of z
  pub flat-padded : (w k : ℕ) (l : List (List A)) → length l ≤ w → Each (λ x. length x ≡ k) l → flat (padded w (replicate k z) l) ≡ padded (w * k) z (flat l)
  flat-padded zero k [] h e = let o : 0 * k ≡ 0 = zero-mul k in rw o
  flat-padded zero k (x ∷ l) h e = absurd (omega arith)
  flat-padded (suc w) k [] h e =
      let size : suc w * k ≡ k + w * k = omega (arith, suc-mul w k) in
      rw (size, padded_zeros k (w * k)) (ap (λ (r : List A). replicate k z ++ r) (flat-padded w k [] (omega arith) tt))
  flat-padded (suc w) k (x ∷ l) h e =
      let size : suc w * k ≡ k + w * k = omega (arith, suc-mul w k) in
      rw (size, padded_row k (w * k) x (flat l) e.0) (ap (λ (r : List A). x ++ r) (flat-padded w k l (omega arith) e.1))
