-- What does a buffer hold while a loop lays parts in it, one behind the other, and what is left to lay?
use mathlib.Core.Path.{◌≡◌, refl, sym, ap, ◌∙◌}
use mathlib.Core.List.{List, [], ◌∷◌, ◌++◌, append_assoc, append-nil}
use Prim.Native.Nat.{ℕ, suc, ◌+◌, ◌-◌, ◌*◌, ◌≤◌, ◌<◌}
use native.Mathlib.Nat.{zero-mul, suc-mul, mul-le-mul_right}
use native.Mathlib.Numerals.{add-one}
use native.Mathlib.Omega.{arith}
use lib.ListN.{length, take, drop, take-append-drop, length-append, length-drop}
use lib.Seq.{length-take-le, sets, sets-eq, paste, length-paste, take-paste, drop-paste, take_all, take_at, drop-length, drop-append-add, drop-drop, take-add}
use Rattle.laws.specs.Lists.{parted}

next_place : (j n : ℕ) → (j + 1) * n ≡ j * n + n
next_place j n = rw add-one (suc-mul j n)

-- ---- stores in order
module _ {A : Type 0} where
  -- what is laid so far, and behind it what stood there; a run of stores lays vs
  pub laid_on : (f d vs : List A) (p : ℕ) → length f ≡ p → p + length vs ≤ length d → sets (f ++ drop p d) p vs ≡ f ++ vs ++ drop (p + length vs) d
  laid_on f d vs p e h =
      let behind : drop (p + length vs) (f ++ drop p d) ≡ drop (p + length vs) d = rw e at (drop-append-add f (drop p d) (length vs)) ∙ drop-drop (length vs) p d in
      sets-eq vs (f ++ drop p d) p (omega (arith, length-append f (drop p d), length-drop p d)) ∙ rw (take_at f (drop p d) p e, behind)

  -- ---- a part from a place to a place
  pub part_is : (at n : ℕ) (l : List A) → take (at + n - at) (drop at l) ≡ take n (drop at l)
  part_is at n l =
      let o : at + n - at ≡ n = omega arith in
      rw o refl

  pub part_long : (at n : ℕ) (l : List A) → at + n ≤ length l → length (take (at + n - at) (drop at l)) ≡ n
  part_long at n l h = ap length (part_is at n l) ∙ length-take-le n (drop at l) (omega (arith, length-drop at l))

  -- ---- of n parts of k elements each, those from part j on
  pub parted_next : (n k j : ℕ) (l : List A) → j < n → parted (n - j) k (drop (j * k) l) ≡ take k (drop (j * k) l) ∷ parted (n - (j + 1)) k (drop ((j + 1) * k) l)
  parted_next n k j l h =
      let count : n - j ≡ suc (n - (j + 1)) = omega arith in
      rw (count, next_place j k, ← drop-drop k (j * k) l) refl

-- ---- part j of w parts of n elements each has become y
pub place_in : (w n j : ℕ) → j < w → j * n + n ≤ w * n
place_in w n j h = omega (arith, mul-le-mul_right n h, suc-mul j n)

module _ {A : Type 0} where
  -- as a call leaves a part that was lent to it
  abbrev pub put : List A → ℕ → ℕ → List A → List A
  put d at n y = take at d ++ (y ++ drop (at + n - at) (drop at d))

  pub put_pastes : (d y : List A) (at n : ℕ) → length y ≡ n → put d at n y ≡ paste d at y n
  put_pastes d y at n e =
      let o : at + n - at ≡ n = omega arith in
      rw (o, drop-drop n at d, take_all n y (omega arith)) (sym (append_assoc (take at d) y (drop (at + n) d)))

  module _ (d y : List A) (w n j : ℕ) (h : j < w) (room : w * n ≤ length d) (e : length y ≡ n) where
    inside : j * n + n ≤ length d
    inside = omega (arith, place_in w n j h)

    pub pasted_first : take ((j + 1) * n) (paste d (j * n) y n) ≡ take (j * n) d ++ y
    pasted_first = rw (next_place j n) (take-paste d (j * n) y n (omega (arith, inside)) (omega arith) ∙ ap (λ l. take (j * n) d ++ l) (take_all n y (omega arith)))

    pasted_rest : drop ((j + 1) * n) (paste d (j * n) y n) ≡ drop ((j + 1) * n) d
    pasted_rest = rw (next_place j n) (drop-paste d (j * n) y n (omega (arith, inside)) (omega arith))

    pub pasted_long : length (paste d (j * n) y n) ≡ length d
    pasted_long = length-paste d (j * n) y n inside (omega arith)

-- one part more of a list
pub first_next : {A : Type 0} (l : List A) (j n : ℕ) → take ((j + 1) * n) l ≡ take (j * n) l ++ take n (drop (j * n) l)
first_next l j n = rw (next_place j n) (take-add (j * n) n l)

-- ---- a loop that lays part j of w parts of n elements each in its j-th turn: `rest j` is all that is to lay from part j on, c is what it has then
pub record Laying {A : Type 0} (n w : ℕ) (rest : ℕ → List A) (d c : List A) (j : ℕ) : Type 0 where
  pub done : j ≤ w
  pub room : w * n ≤ length d
  pub long : length c ≡ length d
  pub left : drop (j * n) c ≡ drop (j * n) d
  pub is : take (j * n) c ++ rest j ≡ rest 0

module _ {A : Type 0} {n w : ℕ} {rest : ℕ → List A} {d : List A} where
  pub laying_start : w * n ≤ length d → Laying n w rest d d 0
  laying_start h = record { done = omega arith; room = h; long = refl; left = refl; is = rw (zero-mul n) refl }

  module _ {c : List A} {j : ℕ} (l : Laying n w rest d c j) where
    pub laying_place : j < w → j * n + n ≤ length c
    laying_place h = omega (arith, l.room, l.long, place_in w n j h)

    -- part j is still what it was
    pub laying_part : take (j * n + n - j * n) (drop (j * n) c) ≡ take n (drop (j * n) d)
    laying_part = part_is (j * n) n c ∙ ap (take n) l.left

    -- y comes there, which is x
    module _ {y : List A} (x : List A) (h : j < w) (same : y ≡ x) (e : length x ≡ n) (next : rest j ≡ x ++ rest (j + 1)) where
      pub laying_paste : Laying n w rest d (paste c (j * n) y n) (j + 1)
      laying_paste =
          let room : w * n ≤ length c = omega (arith, l.room, l.long) in
          rw same (record {
            done = omega arith;
            room = l.room;
            long = pasted_long c x w n j h room e ∙ l.long;
            left = pasted_rest c x w n j h room e ∙ rw (next_place j n, ← drop-drop n (j * n) c, ← drop-drop n (j * n) d) (ap (drop n) l.left);
            is = ap (λ r. r ++ rest (j + 1)) (pasted_first c x w n j h room e) ∙ append_assoc (take (j * n) c) x (rest (j + 1)) ∙ ap (λ r. take (j * n) c ++ r) (sym next) ∙ l.is;
          })

      pub laying_more : Laying n w rest d (put c (j * n) n y) (j + 1)
      laying_more = rw (put_pastes c y (j * n) n (ap length same ∙ e)) laying_paste

    pub laying_end : w ≤ j → rest w ≡ [] → c ≡ rest 0 ++ drop (w * n) d
    laying_end h none =
        let o : j ≡ w = omega (arith, l.done) in
        let first : take (w * n) c ≡ rest 0 = sym (append-nil (take (w * n) c)) ∙ ap (λ r. take (w * n) c ++ r) (sym none) ∙ rw o at l.is in
        sym (take-append-drop (w * n) c) ∙ (λ i. first i ++ (rw o at l.left) i)

    -- nothing stands behind the parts
    pub laying_all : w ≤ j → rest w ≡ [] → length d ≡ w * n → c ≡ rest 0
    laying_all h none e = laying_end h none ∙ rw (← e, drop-length d) (append-nil (rest 0))
