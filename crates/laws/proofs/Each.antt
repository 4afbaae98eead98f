-- What holds of every element of a list: a statement for each, where a test would not do.
use mathlib.Core.Path.{◌≡◌, refl, ap}
use mathlib.Core.List.{List, [], ◌∷◌, ◌++◌, map}
use mathlib.Core.Bool.{Bool, true, false, cond}
use Prim.Native.Nat.{ℕ, zero, suc, ◌+◌, ◌<◌}
use native.Mathlib.Omega.{arith}
use lib.ListN.{length, get_or, take, drop}
use Rattle.laws.specs.Lists.{keep, every, gather, flat, from}
use Rattle.laws.proofs.Lists.{and_l, and_r, and_both, In, here, there}

abbrev pub Each : {A : Type 0} → (A → Type 0) → List A → Type 0
Each P [] = Unit {0}
Each P (x ∷ l) = P x × Each P l

module _ {A : Type 0} (P : A → Type 0) where
  pub each_of : ((x : A) → P x) → (l : List A) → Each P l
  each_of f [] = tt
  each_of f (x ∷ l) = (f x, each_of f l)

  pub each_in : (l : List A) → ((x : A) → In x l → P x) → Each P l
  each_in [] f = tt
  each_in (x ∷ l) f = (f x here, each_in l (λ y h. f y (there h)))

  pub each_at : (l : List A) (k : ℕ) (d : A) → P d → Each P l → P (get_or l k d)
  each_at [] k d z h = z
  each_at (x ∷ l) zero d z h = h.0
  each_at (x ∷ l) (suc k) d z h = each_at l k d z h.1

  pub each_below : (l : List A) (k : ℕ) (d : A) → k < length l → Each P l → P (get_or l k d)
  each_below [] k d b h = absurd (omega arith)
  each_below (x ∷ l) zero d b h = h.0
  each_below (x ∷ l) (suc k) d b h = each_below l k d (omega arith) h.1

  pub each_append : (l m : List A) → Each P l → Each P m → Each P (l ++ m)
  each_append [] m h k = k
  each_append (x ∷ l) m h k = (h.0, each_append l m h.1 k)

  pub each_keep : (f : A → Bool) (l : List A) → Each P l → Each P (keep f l)
  each_keep f [] h = tt
  each_keep f (x ∷ l) h = go (f x) (each_keep f l h.1)
    where
      go : (t : Bool) → Each P (keep f l) → Each P (cond t (x ∷ keep f l) (keep f l))
      go true k = (h.0, k)
      go false k = k

  pub each_take : (k : ℕ) (l : List A) → Each P l → Each P (take k l)
  each_take zero l h = tt
  each_take (suc k) [] h = tt
  each_take (suc k) (x ∷ l) h = (h.0, each_take k l h.1)

  pub each_drop : (k : ℕ) (l : List A) → Each P l → Each P (drop k l)
  each_drop zero l h = h
  each_drop (suc k) [] h = tt
  each_drop (suc k) (x ∷ l) h = each_drop k l h.1

  pub each_flat : (l : List (List A)) → Each (Each P) l → Each P (flat l)
  each_flat [] h = tt
  each_flat (x ∷ l) h = each_append x (flat l) h.0 (each_flat l h.1)

pub each_from : (P : ℕ → Type 0) (k n : ℕ) → ((v : ℕ) → v < k + n → P v) → Each P (from k n)
each_from P k zero f = tt
each_from P k (suc n) f = (f k (omega arith), each_from P (suc k) n (λ v h. f v (omega arith)))

-- what follows of an element follows of each
pub each_more : {A : Type 0} (P Q : A → Type 0) → ((x : A) → P x → Q x) → (l : List A) → Each P l → Each Q l
each_more P Q f [] h = tt
each_more P Q f (x ∷ l) h = (f x h.0, each_more P Q f l h.1)

module _ {A B : Type 0} (P : A → Type 0) (Q : B → Type 0) where
  pub each_gather : (g : A → List B) → ((x : A) → P x → Each Q (g x)) → (l : List A) → Each P l → Each Q (gather g l)
  each_gather g f [] h = tt
  each_gather g f (x ∷ l) h = each_append Q (g x) (gather g l) (f x h.0) (each_gather g f l h.1)

  pub each_map : (g : A → B) → ((x : A) → P x → Q (g x)) → (l : List A) → Each P l → Each Q (map g l)
  each_map g f [] h = tt
  each_map g f (x ∷ l) h = (f x h.0, each_map g f l h.1)

  pub each_unmap : (g : A → B) → ((x : A) → Q (g x) → P x) → (l : List A) → Each Q (map g l) → Each P l
  each_unmap g f [] h = tt
  each_unmap g f (x ∷ l) h = (f x h.0, each_unmap g f l h.1)

-- as a test
module _ {A : Type 0} (t : A → Bool) (P : A → Type 0) where
  pub each_every : ((x : A) → P x → t x ≡ true) → (l : List A) → Each P l → every t l ≡ true
  each_every f [] h = refl
  each_every f (x ∷ l) h = and_both (t x) (every t l) (f x h.0) (each_every f l h.1)

  pub every_each : ((x : A) → t x ≡ true → P x) → (l : List A) → every t l ≡ true → Each P l
  every_each f [] e = tt
  every_each f (x ∷ l) e = (f x (and_l (t x) (every t l) e), every_each f l (and_r (t x) (every t l) e))

-- tests that agree on each keep the same
pub keep_each : {A : Type 0} (f g : A → Bool) (l : List A) → Each (λ x. f x ≡ g x) l → keep f l ≡ keep g l
keep_each f g [] h = refl
keep_each {A} f g (x ∷ l) h = rw h.0 (ap (λ (m : List A). cond (g x) (x ∷ m) m) (keep_each f g l h.1))
