-- What does a buffer of n blocks of s elements each hold while a loop lays them, from the first on, or from the last back?
use mathlib.Core.Path.{◌≡◌, refl, sym, ap, ◌∙◌}
use mathlib.Core.List.{List, [], ◌∷◌, ◌++◌}
use Prim.Native.Nat.{ℕ, zero, suc, ◌+◌, ◌*◌, ◌-◌, ◌≤◌, ◌<◌}
use native.Mathlib.Nat.{zero-add, zero-mul, suc-mul}
use native.Mathlib.Omega.{arith}
use lib.ListN.{length, take, drop, take-append-drop, drop_of_length-le}
use lib.Seq.{length-take-le, take_all, take-take, drop-drop, drop-append-add, take-append-add, take_at, drop_at}
use Rattle.laws.specs.Lists.{gather, from}
use Rattle.laws.proofs.Filled.{take_within, gather_more}
use Rattle.laws.proofs.Lists.{from_more}
use Rattle.rows.proofs.Laid.{place_in, put, put_pastes, pasted_first, pasted_long}

-- ---- from the first on: k are laid
pub record Onward {A : Type 0} (s : ℕ) (f : ℕ → List A) (n : ℕ) (c : List A) (k : ℕ) : Type 0 where
  pub done : k ≤ n
  pub long : length c ≡ n * s
  pub is : take (k * s) c ≡ gather f (from 0 k)

module _ {A : Type 0} {s n : ℕ} {f : ℕ → List A} where
  pub onward_start : {c : List A} → length c ≡ n * s → Onward s f n c 0
  onward_start e = record { done = omega arith; long = e; is = rw (zero-mul s) refl }

  module _ {c : List A} {k : ℕ} (o : Onward s f n c k) where
    pub onward_place : k < n → k * s + s ≤ length c
    onward_place h = omega (arith, o.long, place_in n s k h)

    pub onward_more : {y : List A} → k < n → y ≡ f k → length y ≡ s → Onward s f n (put c (k * s) s y) (k + 1)
    onward_more {y} h e l =
        let room : n * s ≤ length c = omega (arith, o.long) in
        let more : gather f (from 0 (k + 1)) ≡ gather f (from 0 k) ++ f k = ap (gather f) (from_more 0 k) ∙ ap (λ (j : ℕ). gather f (from 0 k ++ j ∷ [])) (zero-add k) ∙ gather_more f (from 0 k) k in
        rw (put_pastes c y (k * s) s l) (record {
          done = omega arith;
          long = pasted_long c y n s k h room l ∙ o.long;
          is = pasted_first c y n s k h room l ∙ (λ j. o.is j ++ e j) ∙ sym more;
        })

    pub onward_end : k ≡ n → c ≡ gather f (from 0 n)
    onward_end e = sym (take_all (n * s) c (omega (arith, o.long))) ∙ rw e at o.is

-- ---- from the last back: below block k stands what was there, x; from it on they are laid
pub record Back {A : Type 0} (s : ℕ) (f : ℕ → List A) (n : ℕ) (x c : List A) (k : ℕ) : Type 0 where
  pub done : k ≤ n
  pub long : length c ≡ n * s
  pub left : take (k * s) c ≡ take (k * s) x
  pub is : drop (k * s) c ≡ gather f (from k (n - k))

-- the first of those from k on
one_more : {A : Type 0} (f : ℕ → List A) (n k : ℕ) → k < n → gather f (from k (n - k)) ≡ f k ++ gather f (from (suc k) (n - suc k))
one_more f n k h = let o : n - k ≡ suc (n - suc k) = omega arith in rw o refl

module _ {A : Type 0} {s n : ℕ} {f : ℕ → List A} where
  pub back_start : {x c : List A} → c ≡ x → length c ≡ n * s → Back s f n x c n
  back_start {x} {c} h e = let o : n - n ≡ 0 = omega arith in record { done = omega arith; long = e; left = ap (take (n * s)) h; is = rw o (drop_of_length-le c {i = n * s} (omega arith)) }

  module _ {x c : List A} {k : ℕ} (b : Back s f n x c (suc k)) where
    pub back_place : k * s + s ≤ length c
    back_place = omega (arith, b.long, place_in n s k b.done)

    -- the block to lay next is still what it was
    pub back_part : take s (drop (k * s) c) ≡ take s (drop (k * s) x)
    back_part =
        let next = suc-mul k s in
        sym (take_within (k * s) s (suc k * s) c (omega arith)) ∙ ap (λ (l : List A). take s (drop (k * s) l)) b.left ∙ take_within (k * s) s (suc k * s) x (omega arith)

    pub back_more : {y : List A} → y ≡ f k → length y ≡ s → Back s f n x (put c (k * s) s y) k
    back_more {y} e l =
        let next = suc-mul k s in
        let rest = drop (k * s + s - k * s) (drop (k * s) c) in
        let at : length (take (k * s) c) ≡ k * s = length-take-le (k * s) c (omega (arith, back_place)) in
        let o : k * s + s - k * s ≡ s = omega arith in
        let behind : rest ≡ drop (suc k * s) c = rw (o, next) (drop-drop s (k * s) c) in
        record {
          done = omega (arith, b.done);
          long = ap length (put_pastes c y (k * s) s l) ∙ pasted_long c y n s k b.done (omega (arith, b.long)) l ∙ b.long;
          left = take_at (take (k * s) c) (y ++ rest) (k * s) at ∙ sym (take-take (k * s) (suc k * s) c (omega arith)) ∙ ap (take (k * s)) b.left ∙ take-take (k * s) (suc k * s) x (omega arith);
          is = drop_at (take (k * s) c) (y ++ rest) (k * s) at ∙ (λ j. e j ++ (behind ∙ b.is) j) ∙ sym (one_more f n k b.done);
        }

  pub back_end : {x c : List A} → Back s f n x c 0 → c ≡ gather f (from 0 n)
  back_end {x} {c} b = let o : n - 0 ≡ n = omega arith in rw (zero-mul s, o) at b.is

-- ---- block k of blocks of the same length
pub block_at : {A : Type 0} (s : ℕ) (f : ℕ → List A) → ((j : ℕ) → length (f j) ≡ s) → (i n k : ℕ) → k < n → take s (drop (k * s) (gather f (from i n))) ≡ f (i + k)
block_at s f wide i zero k h = absurd (omega arith)
block_at s f wide i (suc n) zero h = let o : i + 0 ≡ i = omega arith in rw (zero-mul s, o) (take_at (f i) (gather f (from (suc i) n)) s (wide i))
block_at s f wide i (suc n) (suc k) h =
    let place : suc k * s ≡ length (f i) + k * s = omega (arith, wide i, suc-mul k s) in
    let on : i + suc k ≡ suc i + k = omega arith in
    rw (place, drop-append-add (f i) (gather f (from (suc i) n)) (k * s), on) (block_at s f wide (suc i) n k (omega arith))

-- the first k of them
pub blocks_first : {A : Type 0} (s : ℕ) (f : ℕ → List A) → ((j : ℕ) → length (f j) ≡ s) → (i n k : ℕ) → k ≤ n → take (k * s) (gather f (from i n)) ≡ gather f (from i k)
blocks_first s f wide i n zero h = rw (zero-mul s) refl
blocks_first s f wide i zero (suc k) h = absurd (omega arith)
blocks_first s f wide i (suc n) (suc k) h =
    let place : suc k * s ≡ length (f i) + k * s = omega (arith, wide i, suc-mul k s) in
    rw (place, take-append-add (f i) (gather f (from (suc i) n)) (k * s), blocks_first s f wide (suc i) n k (omega arith))

-- ---- a block laid again as it stood
pub put_again : {A : Type 0} (c y : List A) (at s : ℕ) → y ≡ take (at + s - at) (drop at c) → put c at s y ≡ c
put_again {A} c y at s e = let k = at + s - at in ap (λ (l : List A). take at c ++ l) ((λ j. e j ++ drop k (drop at c)) ∙ take-append-drop k (drop at c)) ∙ take-append-drop at c
