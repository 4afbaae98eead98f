-- What is true of a list made of two, place by place, whatever is done at a place?
use mathlib.Core.Path.{◌≡◌, refl, ap}
use mathlib.Core.List.{List, [], ◌∷◌, ◌++◌, map}
use mathlib.Core.Bool.{Bool, true, false, ◌&&◌}
use Prim.Native.Nat.{ℕ, zero, suc, ◌<◌}
use native.Mathlib.Omega.{arith}
use lib.ListN.{length, get_or}
use lib.IntN.{pos, ◌+ℤ◌, ◌-ℤ◌}
use lib.Signed.{le_z}
use Rattle.laws.specs.Z.{eq_z}
use Rattle.laws.specs.Lists.{every, padded}
use Rattle.laws.proofs.Each.{Each}
use Rattle.meaning.specs.Diagram.{Pair, State, merged, merged_state, eq_state}
use Rattle.state.specs.Pairs.{added, lessened, fits_in}

-- as far as both lists go
abbrev pub joined : {A B C : Type 0} → (A → B → C) → List A → List B → List C
joined f [] b = []
joined f (x ∷ a) [] = []
joined f (x ∷ a) (y ∷ b) = f x y ∷ joined f a b

module _ {A B C : Type 0} (f : A → B → C) where
  pub joined_length : (a : List A) (b : List B) → length a ≡ length b → length (joined f a b) ≡ length a
  joined_length [] b e = refl
  joined_length (x ∷ a) [] e = absurd (omega arith)
  joined_length (x ∷ a) (y ∷ b) e = ap suc (joined_length a b (omega arith))

  pub joined_at : (a : List A) (b : List B) (k : ℕ) (x : A) (y : B) (d : C) → k < length a → k < length b → get_or (joined f a b) k d ≡ f (get_or a k x) (get_or b k y)
  joined_at [] b k x y d h l = absurd (omega arith)
  joined_at (p ∷ a) [] k x y d h l = absurd (omega arith)
  joined_at (p ∷ a) (q ∷ b) zero x y d h l = refl
  joined_at (p ∷ a) (q ∷ b) (suc k) x y d h l = joined_at a b k x y d (omega arith) (omega arith)

  -- filled up first, or afterwards
  pub joined-padded : (n : ℕ) (x : A) (y : B) (a : List A) (b : List B) → length a ≡ length b → joined f (padded n x a) (padded n y b) ≡ padded n (f x y) (joined f a b)
  joined-padded zero x y a b e = refl
  joined-padded (suc n) x y [] [] e = ap (λ (l : List C). f x y ∷ l) (joined-padded n x y [] [] refl)
  joined-padded (suc n) x y [] (q ∷ b) e = absurd (omega arith)
  joined-padded (suc n) x y (p ∷ a) [] e = absurd (omega arith)
  joined-padded (suc n) x y (p ∷ a) (q ∷ b) e = ap (λ (l : List C). f p q ∷ l) (joined-padded n x y a b (omega arith))

  -- one behind the other first, or afterwards
  pub joined_append : (a c : List A) (b d : List B) → length a ≡ length b → joined f (a ++ c) (b ++ d) ≡ joined f a b ++ joined f c d
  joined_append [] c [] d e = refl
  joined_append [] c (y ∷ b) d e = absurd (omega arith)
  joined_append (x ∷ a) c [] d e = absurd (omega arith)
  joined_append (x ∷ a) c (y ∷ b) d e = ap (λ (l : List C). f x y ∷ l) (joined_append a c b d (omega arith))

  pub joined_each : (P : A → Type 0) (Q : B → Type 0) (R : C → Type 0) → ((x : A) (y : B) → P x → Q y → R (f x y))
      → (a : List A) (b : List B) → Each P a → Each Q b → Each R (joined f a b)
  joined_each P Q R g [] b h l = tt
  joined_each P Q R g (x ∷ a) [] h l = tt
  joined_each P Q R g (x ∷ a) (y ∷ b) h l = (g x y h.0 l.0, joined_each P Q R g a b h.1 l.1)

-- what g makes of an element, before or afterwards
pub joined_map : {A C : Type 0} (g : A → C) (f : A → A → A) (o : C → C → C) → ((x y : A) → g (f x y) ≡ o (g x) (g y))
    → (a b : List A) → map g (joined f a b) ≡ joined o (map g a) (map g b)
joined_map g f o e [] b = refl
joined_map g f o e (x ∷ a) [] = refl
joined_map g f o e (x ∷ a) (y ∷ b) = λ i. e x y i ∷ joined_map g f o e a b i

-- ---- what is done at a place
-- the pair of a place that is not there
abbrev pub no_pair : Pair
no_pair = (pos 0, pos 0)

abbrev pub add : Pair → Pair → Pair
add p q = (p.0 +ℤ q.0, p.1 +ℤ q.1)

abbrev pub lessen : Pair → Pair → Pair
lessen p q = (p.0 -ℤ q.0, p.1 -ℤ q.1)

-- tests of the lows, and of the highs
abbrev pub equal_low : Pair → Pair → Bool
equal_low p q = eq_z p.0 q.0

abbrev pub equal_high : Pair → Pair → Bool
equal_high p q = eq_z p.1 q.1

abbrev pub fit_low : Pair → Pair → Bool
fit_low p l = le_z p.0 l.0

abbrev pub fit_high : Pair → Pair → Bool
fit_high p l = le_z l.1 p.1

-- both tests
abbrev pub both : (Pair → Pair → Bool) → (Pair → Pair → Bool) → Pair → Pair → Bool
both f g p q = f p q && g p q

-- whether every place passes
abbrev pub all : List Bool → Bool
all l = every (λ t. t) l

-- every place passes both tests: all pass the one, and all pass the other
pub all_both : (f g : Pair → Pair → Bool) (t u : State) → (all (joined f t u) && all (joined g t u)) ≡ all (joined (both f g) t u)
all_both f g [] u = refl
all_both f g (p ∷ t) [] = refl
all_both f g (p ∷ t) (q ∷ u) = go (f p q) (g p q) (all (joined f t u)) (all (joined g t u)) (all (joined (both f g) t u)) (all_both f g t u)
  where
    go : (a b r s z : Bool) → (r && s) ≡ z → ((a && r) && (b && s)) ≡ ((a && b) && z)
    go true true r s z e = e
    go true false true s z e = refl
    go true false false s z e = refl
    go false b r s z e = refl

-- ---- so are sums, differences, merged states and their tests made
pub added_joined : (t u : State) → added t u ≡ joined add t u
added_joined [] u = refl
added_joined (p ∷ t) [] = refl
added_joined (p ∷ t) (q ∷ u) = ap (λ (l : State). add p q ∷ l) (added_joined t u)

pub lessened_joined : (t u : State) → lessened t u ≡ joined lessen t u
lessened_joined [] u = refl
lessened_joined (p ∷ t) [] = refl
lessened_joined (p ∷ t) (q ∷ u) = ap (λ (l : State). lessen p q ∷ l) (lessened_joined t u)

pub merged_joined : (t u : State) → length t ≡ length u → merged_state t u ≡ joined merged t u
merged_joined [] [] e = refl
merged_joined [] (q ∷ u) e = absurd (omega arith)
merged_joined (p ∷ t) [] e = absurd (omega arith)
merged_joined (p ∷ t) (q ∷ u) e = ap (λ (l : State). merged p q ∷ l) (merged_joined t u (omega arith))

pub equal_joined : (t u : State) → length t ≡ length u → eq_state t u ≡ all (joined (both equal_low equal_high) t u)
equal_joined [] [] e = refl
equal_joined [] (q ∷ u) e = absurd (omega arith)
equal_joined (p ∷ t) [] e = absurd (omega arith)
equal_joined (p ∷ t) (q ∷ u) e = ap (λ (b : Bool). both equal_low equal_high p q && b) (equal_joined t u (omega arith))

pub fit_joined : (t l : State) → fits_in t l ≡ all (joined (both fit_low fit_high) t l)
fit_joined [] l = refl
fit_joined (p ∷ t) [] = refl
fit_joined (p ∷ t) (q ∷ l) = ap (λ (b : Bool). both fit_low fit_high p q && b) (fit_joined t l)
