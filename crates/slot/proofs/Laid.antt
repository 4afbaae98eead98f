-- What does a loop hold that lays a list element by element, and how does a table fill up row by row?
use mathlib.Core.Path.{◌≡◌, refl, sym, ap, ◌∙◌}
use mathlib.Core.List.{List, [], ◌∷◌, ◌++◌, append_assoc, append-nil}
use Prim.Native.Nat.{ℕ, zero, suc, ◌+◌, ◌*◌, ◌≤◌, ◌<◌}
use native.Mathlib.Nat.{zero-add}
use native.Mathlib.Numerals.{add-one}
use native.Mathlib.Omega.{arith}
use lib.ListN.{length, get_or, set, take, drop, length-append, length-drop, length-set, drop_of_length-le}
use lib.Seq.{paste, paste-zero, paste-suc, length-paste, take-suc, take_all, take_at, take-length, length-take-le, get_or-take, get_or-drop, set-append_left, take-set-lt, drop-set-lt, drop-drop}
use Rattle.laws.specs.Lists.{gather, from, padded}
use Rattle.laws.proofs.Lists.{length_from, from_more}
use Rattle.laws.proofs.Filled.{padded_more, padded_full, length_rows, gather_more, take-padded, take_within}

-- ---- what is pasted leaves what stands before it
module _ {A : Type 0} (d : List A) (at : ℕ) (s : List A) (n : ℕ) where
  paste_before : (i : ℕ) (x : A) → i < at → at ≤ length d → set (paste d at s n) i x ≡ paste (set d i x) at s n
  paste_before i x h room =
      let first : i < length (take at d) = omega (arith, length-take-le at d room) in
      ap (λ l. set l i x) (append_assoc (take at d) (take n s) (drop (at + n) d))
      ∙ set-append_left (take at d) (take n s ++ drop (at + n) d) i x first
      ∙ (λ t. sym (take-set-lt at d i x h) t ++ (take n s ++ sym (drop-set-lt (at + n) d i x (omega arith)) t))
      ∙ sym (append_assoc (take at (set d i x)) (take n s) (drop (at + n) (set d i x)))

  pub paste_after : (a k : ℕ) → a + k ≤ at → at ≤ length d → take k (drop a (paste d at s n)) ≡ take k (drop a d)
  paste_after a k h room =
      let same : take at (paste d at s n) ≡ take at d = ap (take at) (append_assoc (take at d) (take n s) (drop (at + n) d)) ∙ take_at (take at d) (take n s ++ drop (at + n) d) at (length-take-le at d room) in
      sym (take_within a k at (paste d at s n) h) ∙ ap (λ l. take k (drop a l)) same ∙ take_within a k at d h

-- ---- a loop that lays the elements of s over d, from a place on, one in a turn: c is what it has after k of them
pub record Copied {A : Type 0} (d : List A) (at : ℕ) (s c : List A) (k : ℕ) : Type 0 where
  pub done : k ≤ length s
  pub room : at + length s ≤ length d
  pub is : c ≡ paste d at s k

module _ {A : Type 0} {d : List A} {at : ℕ} {s : List A} where
  pub copied_start : at + length s ≤ length d → Copied d at s d 0
  copied_start h = record { done = omega arith; room = h; is = paste-zero d at s }

  module _ {c : List A} {k : ℕ} (l : Copied d at s c k) where
    pub copied_long : length c ≡ length d
    copied_long = ap length l.is ∙ length-paste d at s k (omega (arith, l.done, l.room)) l.done

    pub copied_more : {a : A} (z : A) → k < length s → a ≡ get_or s k z → Copied d at s (set c (at + k) a) (k + 1)
    copied_more {a} z h e = record {
      done = omega arith;
      room = l.room;
      is = rw (l.is, e, add-one) (paste-suc d at s k z (omega (arith, l.room)) h);
    }

    -- an element set before the place
    pub copied_before : (i : ℕ) (x : A) → i < at → Copied (set d i x) at s (set c i x) k
    copied_before i x h = record { done = l.done; room = omega (arith, l.room, length-set d i x); is = rw l.is (paste_before d at s k i x h (omega (arith, l.room))) }

    pub copied_end : length s ≤ k → c ≡ paste d at s (length s)
    copied_end h =
        let o : k ≡ length s = omega (arith, l.done) in
        rw o at l.is

-- as many as there is room for
pub all_pasted : {A : Type 0} (d s : List A) → length s ≡ length d → paste d 0 s (length s) ≡ s
all_pasted d s e = rw (zero-add (length s), take-length s, drop_of_length-le d {i = length s} (omega arith)) (append-nil s)

-- ---- an array that fills up with the elements of s, one in a turn
module _ {A : Type 0} (n : ℕ) (z : A) (s : List A) where
  pub table_more : (k : ℕ) {x : A} → length s ≤ n → k < length s → x ≡ get_or s k z → set (padded n z (take k s)) k x ≡ padded n z (take (k + 1) s)
  table_more k {x} room h e =
      let long : length (take k s) ≡ k = length-take-le k s (omega arith) in
      let more : take k s ++ x ∷ [] ≡ take (k + 1) s = rw (e, add-one) (sym (take-suc s k z h)) in
      ap (λ j. set (padded n z (take k s)) j x) (sym long) ∙ padded_more z n (take k s) x (omega arith) ∙ ap (padded n z) more

  pub table_all : (k : ℕ) → length s ≡ n → n ≤ k → padded n z (take k s) ≡ s
  table_all k long h = ap (padded n z) (take_all k s (omega arith)) ∙ padded_full n z s long

-- ---- k of a list's elements, from place a on
module _ {A : Type 0} (k a : ℕ) (l : List A) where
  pub part_long : a + k ≤ length l → length (take k (drop a l)) ≡ k
  part_long h = length-take-le k (drop a l) (omega (arith, length-drop a l))

  pub part_at : (z : A) (r : ℕ) → r < k → get_or (take k (drop a l)) r z ≡ get_or l (a + r) z
  part_at z r h = get_or-take k (drop a l) r z h ∙ get_or-drop a l r z

-- the first of an array that fills up
pub padded_take : {A : Type 0} (k n : ℕ) (z : A) (l : List A) → k ≤ n → take k (padded n z l) ≡ padded k z l
padded_take zero n z l h = refl
padded_take (suc k) zero z l h = absurd (omega arith)
padded_take (suc k) (suc n) z [] h = ap (λ r. z ∷ r) (padded_take k n z [] (omega arith))
padded_take (suc k) (suc n) z (x ∷ l) h = ap (λ r. x ∷ r) (padded_take k n z l (omega arith))

-- a front put before what a shorter one was filled up with
pub front_put : {A : Type 0} (d : A) (z : ℕ) (l y : List A) → length l ≤ length y → length y ≤ z → y ++ drop (length y) (padded z d l) ≡ padded z d y
front_put d z [] [] h r = refl
front_put d z (x ∷ l) [] h r = absurd (omega arith)
front_put d zero l (y ∷ ys) h r = absurd (omega arith)
front_put {A} d (suc z) [] (y ∷ ys) h r = ap (λ (m : List A). y ∷ m) (front_put d z [] ys (omega arith) (omega arith))
front_put {A} d (suc z) (x ∷ l) (y ∷ ys) h r = ap (λ (m : List A). y ∷ m) (front_put d z l ys (omega arith) (omega arith))

-- ---- a part of k elements, written as a whole
pub part_written : {A : Type 0} (at k : ℕ) (d s x : List A) → x ≡ s → length s ≡ k → take at d ++ (x ++ drop k (drop at d)) ≡ paste d at s k
part_written at k d s x is e =
    (λ i. take at d ++ (is i ++ drop-drop k at d i))
    ∙ ap (λ l. take at d ++ (l ++ drop (at + k) d)) (sym (take_all k s (omega arith)))
    ∙ sym (append_assoc (take at d) (take k s) (drop (at + k) d))

-- ---- a table of rows of eight: the next row is written behind i rows
module _ {A : Type 0} (n : ℕ) (z : A) (f : ℕ → List A) (wide : (i : ℕ) → length (f i) ≡ 8) (i : ℕ) where
  pub row_put : (k : ℕ) (x d : List A) → k ≡ 8 → i * 8 + 8 ≤ n → x ≡ f i → d ≡ padded n z (gather f (from 0 i))
      → take (i * 8) d ++ (x ++ drop k (drop (i * 8) d)) ≡ padded n z (gather f (from 0 (i + 1)))
  row_put k x d e room is rows =
      let so = gather f (from 0 i) in
      let long : length so ≡ i * 8 = length_rows f 8 wide (from 0 i) ∙ ap (λ k. k * 8) (length_from 0 i) in
      let both : length (so ++ f i) ≡ i * 8 + k = length-append so (f i) ∙ omega (arith, long, wide i) in
      let front : take (i * 8) d ≡ so = (λ j. take (sym long j) (rows j)) ∙ take-padded z n so (omega (arith, long)) in
      let behind : drop k (drop (i * 8) d) ≡ drop (length (so ++ f i)) (padded n z so) = drop-drop k (i * 8) d ∙ (λ j. drop (sym both j) (rows j)) in
      let next : gather f (from 0 (i + 1)) ≡ so ++ f i = ap (gather f) (from_more 0 i ∙ ap (λ j. from 0 i ++ j ∷ []) (zero-add i)) ∙ gather_more f (from 0 i) i in
      (λ j. front j ++ (is j ++ behind j))
      ∙ sym (append_assoc so (f i) (drop (length (so ++ f i)) (padded n z so)))
      ∙ front_put z n so (so ++ f i) (omega (arith, length-append so (f i))) (omega (arith, both))
      ∙ ap (padded n z) (sym next)
