-- Laws of the functions on lists: tests, what stands in a list, places, what is kept.
use mathlib.Core.Path.{◌≡◌, refl, sym, ◌∙◌, ap}
use mathlib.Core.List.{List, [], ◌∷◌, ◌++◌, map}
use mathlib.Core.Bool.{Bool, true, false, ◌&&◌, ◌||◌, cond, true≢false}
use Prim.Native.Nat.{ℕ, zero, suc, ◌+◌, ◌-◌, ◌≤◌, ◌<◌}
use native.Mathlib.Omega.{arith}
use lib.ListN.{length, get_or, take}
use Rattle.laws.specs.Lists.{keep, every, last_or, gather, from}

-- ---- tests joined by &&
pub and_l : (a b : Bool) → (a && b) ≡ true → a ≡ true
and_l true b e = refl
and_l false b e = e

pub and_r : (a b : Bool) → (a && b) ≡ true → b ≡ true
and_r true b e = e
and_r false b e = absurd (true≢false (sym e))

pub and_both : (a b : Bool) → a ≡ true → b ≡ true → (a && b) ≡ true
and_both a b e f = rw (e, f)

pub and_true : (a b : Bool) → b ≡ true → (a && b) ≡ a
and_true true b e = e
and_true false b e = refl

pub and_false : (a b : Bool) → b ≡ false → (a && b) ≡ false
and_false true b e = e
and_false false b e = refl

pub false_and : (a b : Bool) → a ≡ false → (a && b) ≡ false
false_and a b e = rw e

pub or_neither : (a b : Bool) → a ≡ false → b ≡ false → (a || b) ≡ false
or_neither a b e f = rw (e, f)

pub no_true : (t : Bool) → (t ≡ true → ⊥) → t ≡ false
no_true true h = absurd (h refl)
no_true false h = refl

pub no_false : (t : Bool) → (t ≡ false → ⊥) → t ≡ true
no_false true h = refl
no_false false h = absurd (h refl)

-- which of two a choice is
pub cond_first : {A : Type 0} (t : Bool) (a b : A) → t ≡ true → cond t a b ≡ a
cond_first t a b e = rw e

pub cond_second : {A : Type 0} (t : Bool) (a b : A) → t ≡ false → cond t a b ≡ b
cond_second t a b e = rw e

-- ---- an element stands in a list
pub data In {A : Type 0} (v : A) : List A → Type 0 where
  here : {l : List A} → In v (v ∷ l)
  there : {u : A} {l : List A} → In v l → In v (u ∷ l)

pub in_keep : {A : Type 0} (f : A → Bool) {v : A} {l : List A} → f v ≡ true → In v l → In v (keep f l)
in_keep f e (here {l = l}) = rw e here
in_keep f {v} e (there {u = u} {l = l} h) = go (f u) (in_keep f e h)
  where
    go : (t : Bool) → In v (keep f l) → In v (cond t (u ∷ keep f l) (keep f l))
    go true k = there k
    go false k = k

pub in_from : (k n v : ℕ) → v < n → In (k + v) (from k n)
in_from k zero v h = absurd (omega arith)
in_from k (suc n) zero h = let e : k + 0 ≡ k = omega arith in rw e here
in_from k (suc n) (suc v) h = let e : k + suc v ≡ suc k + v = omega arith in rw e (there (in_from (suc k) n v (omega arith)))

module _ {A B : Type 0} where
  pub in_map : (f : A → B) {v : A} {l : List A} → In v l → In (f v) (map f l)
  in_map f here = here
  in_map f (there h) = there (in_map f h)

module _ {A : Type 0} where
  in_left : {v : A} {l : List A} (m : List A) → In v l → In v (l ++ m)
  in_left m here = here
  in_left m (there h) = there (in_left m h)

  in_right : {v : A} (l : List A) {m : List A} → In v m → In v (l ++ m)
  in_right [] h = h
  in_right (x ∷ l) h = there (in_right l h)

-- made of an element, of the one at a place
pub in_made : {A B : Type 0} (f : A → List B) {x : A} {l : List A} {b : B} → In x l → In b (f x) → In b (gather f l)
in_made f (here {l = l}) i = in_left (gather f l) i
in_made f (there {u = u} h) i = in_right (f u) (in_made f h i)

in_at : {A : Type 0} (l : List A) (k : ℕ) (d : A) → k < length l → In (get_or l k d) l
in_at [] k d h = absurd (omega arith)
in_at (x ∷ l) zero d h = here
in_at (x ∷ l) (suc k) d h = there (in_at l k d (omega arith))

pub in_gather : {A B : Type 0} (f : A → List B) (l : List A) (k : ℕ) (d : A) {b : B} → k < length l → In b (f (get_or l k d)) → In b (gather f l)
in_gather f l k d h i = in_made f (in_at l k d h) i

-- two functions that agree on what stands in a list
pub map_same : {A B : Type 0} (f g : A → B) (l : List A) → ((x : A) → In x l → f x ≡ g x) → map f l ≡ map g l
map_same f g [] h = refl
map_same {B = B} f g (x ∷ l) h = rw (h x here) (ap (λ (m : List B). g x ∷ m) (map_same f g l (λ y i. h y (there i))))

-- ---- places and lengths
pub get_or_map : {A B : Type 0} (f : A → B) (l : List A) (k : ℕ) (d : A) (e : B) → k < length l → get_or (map f l) k e ≡ f (get_or l k d)
get_or_map f [] k d e h = absurd (omega arith)
get_or_map f (x ∷ l) zero d e h = refl
get_or_map f (x ∷ l) (suc k) d e h = get_or_map f l k d e (omega arith)

pub length_from : (k n : ℕ) → length (from k n) ≡ n
length_from k zero = refl
length_from k (suc n) = ap suc (length_from (suc k) n)

pub from_more : (v n : ℕ) → from v (n + 1) ≡ from v n ++ (v + n) ∷ []
from_more v zero = let o : v + 0 ≡ v = omega arith in rw o refl
from_more v (suc n) =
    let o : v + suc n ≡ suc v + n = omega arith in
    let p : suc n + 1 ≡ suc (n + 1) = omega arith in
    rw (o, p) (ap (λ (l : List ℕ). v ∷ l) (from_more (suc v) n))

pub get_or-from : (k n v : ℕ) → v < n → get_or (from k n) v 0 ≡ k + v
get_or-from k zero v h = absurd (omega arith)
get_or-from k (suc n) zero h = omega arith
get_or-from k (suc n) (suc v) h = get_or-from (suc k) n v (omega arith) ∙ omega arith

module _ {A : Type 0} where
  -- a place that does not have the default is there
  pub place_there : (l : List A) (k : ℕ) (d : A) → (get_or l k d ≡ d → ⊥) → k < length l
  place_there [] k d f = absurd (f refl)
  place_there (x ∷ l) zero d f = omega arith
  place_there (x ∷ l) (suc k) d f = omega (arith, place_there l k d f)

-- ---- every and keep
module _ {A : Type 0} where
  pub every_append : (f : A → Bool) (l m : List A) → every f l ≡ true → every f m ≡ true → every f (l ++ m) ≡ true
  every_append f [] m e h = h
  every_append f (x ∷ l) m e h = and_both (f x) (every f (l ++ m)) (and_l (f x) (every f l) e) (every_append f l m (and_r (f x) (every f l) e) h)

  pub every-keep : (f g : A → Bool) (l : List A) → every f l ≡ true → every f (keep g l) ≡ true
  every-keep f g [] e = refl
  every-keep f g (x ∷ l) e = go (g x) (and_l (f x) (every f l) e) (every-keep f g l (and_r (f x) (every f l) e))
    where
      go : (t : Bool) → f x ≡ true → every f (keep g l) ≡ true → every f (cond t (x ∷ keep g l) (keep g l)) ≡ true
      go true a b = and_both (f x) (every f (keep g l)) a b
      go false a b = b

  pub every_kept : (f : A → Bool) (l : List A) → every f (keep f l) ≡ true
  every_kept f [] = refl
  every_kept f (x ∷ l) = go (f x) refl (every_kept f l)
    where
      go : (t : Bool) → f x ≡ t → every f (keep f l) ≡ true → every f (cond t (x ∷ keep f l) (keep f l)) ≡ true
      go true e k = and_both (f x) (every f (keep f l)) e k
      go false e k = k

  pub keep_every : (f : A → Bool) (l : List A) → every f l ≡ true → keep f l ≡ l
  keep_every f [] e = refl
  keep_every f (x ∷ l) e = rw (and_l (f x) (every f l) e) (ap (λ (m : List A). x ∷ m) (keep_every f l (and_r (f x) (every f l) e)))

  pub keep_length : (f : A → Bool) (l : List A) → length (keep f l) ≤ length l
  keep_length f [] = omega arith
  keep_length f (x ∷ l) = go (f x) (keep_length f l)
    where
      go : (t : Bool) → length (keep f l) ≤ length l → length (cond t (x ∷ keep f l) (keep f l)) ≤ suc (length l)
      go true h = omega arith
      go false h = omega arith

  -- a test that implies another one finds the same behind it
  pub keep_keep : (f g : A → Bool) → ((x : A) → f x ≡ true → g x ≡ true) → (l : List A) → keep f l ≡ keep f (keep g l)
  keep_keep f g h [] = refl
  keep_keep f g h (x ∷ l) = go (f x) (g x) refl refl (keep_keep f g h l)
    where
      go : (s t : Bool) → f x ≡ s → g x ≡ t → keep f l ≡ keep f (keep g l) → cond s (x ∷ keep f l) (keep f l) ≡ keep f (cond t (x ∷ keep g l) (keep g l))
      go true true a b e = rw a (ap (λ (m : List A). x ∷ m) e)
      go true false a b e = absurd (true≢false (sym (h x a) ∙ b))
      go false true a b e = rw a e
      go false false a b e = e

  -- two tests in either order
  pub keep_swap : (f g : A → Bool) (l : List A) → keep f (keep g l) ≡ keep g (keep f l)
  keep_swap f g [] = refl
  keep_swap f g (x ∷ l) = go (f x) (g x) refl refl (keep_swap f g l)
    where
      go : (s t : Bool) → f x ≡ s → g x ≡ t → keep f (keep g l) ≡ keep g (keep f l) → keep f (cond t (x ∷ keep g l) (keep g l)) ≡ keep g (cond s (x ∷ keep f l) (keep f l))
      go true true a b e = rw (a, b) (ap (λ (m : List A). x ∷ m) e)
      go true false a b e = rw b e
      go false true a b e = rw a e
      go false false a b e = e

  -- what holds of the first and of the rest holds of each
  pub in_either : (P : A → Type 0) {v x : A} {l : List A} → P x → (In v l → P v) → In v (x ∷ l) → P v
  in_either P h r here = h
  in_either P h r (there i) = r i

  pub in_kept : (f : A → Bool) {v : A} (l : List A) → In v (keep f l) → f v ≡ true
  in_kept f [] h = elim h [ ]
  in_kept f {v} (x ∷ l) h = go (f x) refl (λ i. in_kept f l i) h
    where
      go : (t : Bool) → f x ≡ t → (In v (keep f l) → f v ≡ true) → In v (cond t (x ∷ keep f l) (keep f l)) → f v ≡ true
      go true e r i = in_either (λ u. f u ≡ true) e r i
      go false e r i = r i

  pub every_in : (f : A → Bool) {v : A} (l : List A) → every f l ≡ true → In v l → f v ≡ true
  every_in f {v} [] e i = elim i [ ]
  every_in f {v} (x ∷ l) e here = and_l (f x) (every f l) e
  every_in f {v} (x ∷ l) e (there i) = every_in f l (and_r (f x) (every f l) e) i

  pub in_every : (f : A → Bool) (l : List A) → ((x : A) → In x l → f x ≡ true) → every f l ≡ true
  in_every f [] h = refl
  in_every f (x ∷ l) h = and_both (f x) (every f l) (h x here) (in_every f l (λ y i. h y (there i)))

  -- tests that agree on all that is there keep the same
  pub keep_agree : (f g : A → Bool) (l : List A) → ((x : A) → In x l → f x ≡ g x) → keep f l ≡ keep g l
  keep_agree f g [] h = refl
  keep_agree f g (x ∷ l) h = rw (h x here) (ap (λ (m : List A). cond (g x) (x ∷ m) m) (keep_agree f g l (λ y i. h y (there i))))

  -- the last of the first ones passes what all pass
  pub last_passes : (f : A → Bool) (x : A) (l : List A) (k : ℕ) → f x ≡ true → every f l ≡ true → f (last_or x (take k l)) ≡ true
  last_passes f x l zero e h = e
  last_passes f x [] (suc k) e h = e
  last_passes f x (y ∷ l) (suc k) e h = last_passes f y l k (and_l (f y) (every f l) h) (and_r (f y) (every f l) h)

  -- ---- each element stands before all that follow it
  abbrev pub Ordered : (A → A → Bool) → List A → Type 0
  Ordered f [] = Unit {0}
  Ordered f (x ∷ l) = (every (f x) l ≡ true) × Ordered f l

  pub ordered_keep : (f : A → A → Bool) (g : A → Bool) (l : List A) → Ordered f l → Ordered f (keep g l)
  ordered_keep f g [] s = tt
  ordered_keep f g (x ∷ l) s = go (g x) (ordered_keep f g l s.1)
    where
      go : (t : Bool) → Ordered f (keep g l) → Ordered f (cond t (x ∷ keep g l) (keep g l))
      go true k = (every-keep (f x) g l s.0, k)
      go false k = k

-- ---- what is kept of what is gathered
module _ {A : Type 0} where
  pub keep_append : (f : A → Bool) (l m : List A) → keep f (l ++ m) ≡ keep f l ++ keep f m
  keep_append f [] m = refl
  keep_append f (x ∷ l) m = go (f x) (keep_append f l m)
    where
      go : (t : Bool) → keep f (l ++ m) ≡ keep f l ++ keep f m → cond t (x ∷ keep f (l ++ m)) (keep f (l ++ m)) ≡ cond t (x ∷ keep f l) (keep f l) ++ keep f m
      go true e = ap (λ (r : List A). x ∷ r) e
      go false e = e

  -- nothing is kept where every test fails
  pub keep_none : (f : A → Bool) (l : List A) → ((x : A) → f x ≡ false) → keep f l ≡ []
  keep_none f [] h = refl
  keep_none f (x ∷ l) h = rw (h x) (keep_none f l h)

  -- two tests, one after the other, are one
  pub keep_both : (f g : A → Bool) (l : List A) → keep f (keep g l) ≡ keep (λ x. f x && g x) l
  keep_both f g [] = refl
  keep_both f g (x ∷ l) = go (f x) (g x) refl (keep_both f g l)
    where
      go : (s t : Bool) → f x ≡ s → keep f (keep g l) ≡ keep (λ x. f x && g x) l
          → keep f (cond t (x ∷ keep g l) (keep g l)) ≡ cond (s && t) (x ∷ keep (λ x. f x && g x) l) (keep (λ x. f x && g x) l)
      go true true a e = rw a (ap (λ (r : List A). x ∷ r) e)
      go false true a e = rw a e
      go true false a e = e
      go false false a e = e

module _ {A B : Type 0} where
  pub keep-gather : (f : B → Bool) (g : A → List B) (l : List A) → keep f (gather g l) ≡ gather (λ x. keep f (g x)) l
  keep-gather f g [] = refl
  keep-gather f g (x ∷ l) = keep_append f (g x) (gather g l) ∙ ap (λ (r : List B). keep f (g x) ++ r) (keep-gather f g l)

  pub gather-keep : (f : A → Bool) (g : A → List B) (l : List A) → gather g (keep f l) ≡ gather (λ x. cond (f x) (g x) []) l
  gather-keep f g [] = refl
  gather-keep f g (x ∷ l) = go (f x) (gather-keep f g l)
    where
      go : (t : Bool) → gather g (keep f l) ≡ gather (λ x. cond (f x) (g x) []) l
          → gather g (cond t (x ∷ keep f l) (keep f l)) ≡ cond t (g x) [] ++ gather (λ x. cond (f x) (g x) []) l
      go true e = ap (λ (r : List B). g x ++ r) e
      go false e = e

  pub keep-map : (f : B → Bool) (g : A → B) (l : List A) → keep f (map g l) ≡ map g (keep (λ x. f (g x)) l)
  keep-map f g [] = refl
  keep-map f g (x ∷ l) = go (f (g x)) (keep-map f g l)
    where
      go : (t : Bool) → keep f (map g l) ≡ map g (keep (λ x. f (g x)) l)
          → cond t (g x ∷ keep f (map g l)) (keep f (map g l)) ≡ map g (cond t (x ∷ keep (λ x. f (g x)) l) (keep (λ x. f (g x)) l))
      go true e = ap (λ (r : List B). g x ∷ r) e
      go false e = e

-- from v on: functions that agree there make the same, and the first d, of which nothing is made, are left out
pub gather-from : {B : Type 0} (f g : ℕ → List B) (k v : ℕ) → ((u : ℕ) → v ≤ u → f u ≡ g u) → gather f (from v k) ≡ gather g (from v k)
gather-from f g zero v e = refl
gather-from {B} f g (suc k) v e = rw (e v (omega arith)) (ap (λ (r : List B). g v ++ r) (gather-from f g k (suc v) (λ u b. e u (omega arith))))

pub gather_skip : {B : Type 0} (f : ℕ → List B) (k d v : ℕ) → ((u : ℕ) → u < v + d → f u ≡ []) → gather f (from v k) ≡ gather f (from (v + d) (k - d))
gather_skip f zero d v h = let o : 0 - d ≡ 0 = omega arith in rw o refl
gather_skip f (suc k) zero v h = let o : v + 0 ≡ v = omega arith in let p : suc k - 0 ≡ suc k = omega arith in rw (o, p) refl
gather_skip f (suc k) (suc d) v h =
    let o : v + suc d ≡ suc v + d = omega arith in
    let p : suc k - suc d ≡ k - d = omega arith in
    rw (h v (omega arith), o, p) (gather_skip f k d (suc v) (λ u b. h u (omega arith)))
