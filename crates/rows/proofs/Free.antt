-- What has a loop over the rules taken from a node's limit at each turn, and what is its room in the end?
use mathlib.Core.Path.{◌≡◌, refl, sym, ap, ◌∙◌}
use mathlib.Core.Bool.{Bool, true, false, cond}
use mathlib.Core.List.{List, [], ◌∷◌, ◌++◌, map, map-append}
use Prim.Native.Nat.{ℕ, zero, suc, ◌+◌, ◌*◌, ◌≤◌, ◌<◌}
use native.Mathlib.Nat.{suc-add}
use native.Mathlib.Omega.{arith}
use lib.ListN.{length, get_or, set, replicate, length-map, length-append, length-set}
use lib.Seq.{set-append_left, set_at, set-get_or}
use lib.IntN.{ℤ, pos, neg_ℤ, ◌+ℤ◌, ◌-ℤ◌}
use Rattle.laws.specs.Z.{zarith, sum, dif, neg, eq_z, Within, sum_within, back, back_is}
use Rattle.laws.specs.Lists.{from, padded}
use Rattle.laws.proofs.Lists.{length_from, from_more}
use Rattle.laws.proofs.Filled.{length-padded, padded_more}
use Rattle.lent.specs.Lanes.{zipped}
use Rattle.lent.specs.Passes.{down_lanes, room_lanes}
use Rattle.lanes.proofs.Laws.{length-zipped, turned_within}
use Rattle.rows.proofs.Cells.{low, high, lows, highs, down_long, down_is}

-- ---- places below r, and one more
module _ {A : Type 0} where
  pub set_behind : (l h : List A) (n : ℕ) (a : A) → set (l ++ h) (length l + n) a ≡ l ++ set h n a
  set_behind [] h n a = let o : 0 + n ≡ n = omega arith in rw o refl
  set_behind (x ∷ l) h n a = rw (suc-add (length l) n) (ap (λ r. x ∷ r) (set_behind l h n a))

  -- an array that is filled place by place
  padded_on : (z : A) (f : ℕ → A) (n r : ℕ) → r < n → set (padded n z (map f (from 0 r))) r (f r) ≡ padded n z (map f (from 0 (r + 1)))
  padded_on z f n r h =
      let long : length (map f (from 0 r)) ≡ r = length-map (from 0 r) f ∙ length_from 0 r in
      let o : 0 + r ≡ r = omega arith in
      rw long at (padded_more z n (map f (from 0 r)) (f r) (omega arith)) ∙ ap (padded n z) (rw (from_more 0 r, map-append f (from 0 r) ((0 + r) ∷ []), o) refl)

-- ---- lane by lane, one lane changed
zipped_set : (f : ℤ → ℤ → ℤ) (l m : List ℤ) (k : ℕ) (a b : ℤ) → length l ≡ length m → set (zipped f l m) k (f a b) ≡ zipped f (set l k a) (set m k b)
zipped_set f [] m k a b e = refl
zipped_set f (x ∷ l) [] k a b e = absurd (omega arith)
zipped_set f (x ∷ l) (y ∷ m) zero a b e = refl
zipped_set f (x ∷ l) (y ∷ m) (suc k) a b e = ap (λ (r : List ℤ). f x y ∷ r) (zipped_set f l m k a b (omega arith))

zipped_zeros : (l : List ℤ) → zipped ◌-ℤ◌ l (replicate (length l) (pos 0)) ≡ l
zipped_zeros [] = refl
zipped_zeros (x ∷ l) =
    let first : x -ℤ pos 0 ≡ x = omega (zarith, dif x (pos 0)) in
    rw (first, zipped_zeros l)

-- ---- the lanes that the first r rules take
abbrev drawn : List ℤ → ℕ → List ℤ
drawn c r = lows c r ++ highs c r ++ (pos 0 ∷ [])

both : (c : List ℤ) (i j : ℕ) → length (lows c i ++ highs c j) ≡ 16
both c i j =
    length-append (lows c i) (highs c j) ∙ omega (arith, length-padded (pos 0) 8 (map (low c) (from 0 i)), length-padded (pos 0) 8 (map (high c) (from 0 j)))

drawn_long : (c : List ℤ) (r : ℕ) → length (drawn c r) ≡ 17
drawn_long c r = length-append (lows c r ++ highs c r) (pos 0 ∷ []) ∙ omega (arith, both c r r)

drawn_more : (c : List ℤ) (r : ℕ) → r < 8 → set (set (drawn c r) r (low c r)) (8 + r) (high c r) ≡ drawn c (r + 1)
drawn_more c r h =
    let end : List ℤ = pos 0 ∷ [] in
    let eight : length (lows c r) ≡ 8 = length-padded (pos 0) 8 (map (low c) (from 0 r)) in
    let eight' : length (lows c (r + 1)) ≡ 8 = length-padded (pos 0) 8 (map (low c) (from 0 (r + 1))) in
    let first : set (drawn c r) r (low c r) ≡ lows c (r + 1) ++ highs c r ++ end =
    set-append_left (lows c r ++ highs c r) end r (low c r) (omega (arith, both c r r))
    ∙ ap (λ l. l ++ end) (set-append_left (lows c r) (highs c r) r (low c r) (omega arith) ∙ ap (λ l. l ++ highs c r) (padded_on (pos 0) (low c) 8 r h)) in
    let second : set (lows c (r + 1) ++ highs c r) (8 + r) (high c r) ≡ lows c (r + 1) ++ highs c (r + 1) =
    rw eight' at (set_behind (lows c (r + 1)) (highs c r) r (high c r)) ∙ ap (λ l. lows c (r + 1) ++ l) (padded_on (pos 0) (high c) 8 r h) in
    ap (λ l. set l (8 + r) (high c r)) first
    ∙ set-append_left (lows c (r + 1) ++ highs c r) end (8 + r) (high c r) (omega (arith, both c (r + 1) r))
    ∙ ap (λ l. l ++ end) second

-- ---- x is the room after r rules, l is the limit
pub record Roomed (m : ℕ) (c l x : List ℤ) (r : ℕ) : Type 0 where
  pub few : m ≤ 8
  pub done : r ≤ m
  pub long : length l ≡ 17
  pub is : x ≡ zipped ◌-ℤ◌ l (drawn c r)

pub roomed_start : (m : ℕ) (c l : List ℤ) → m ≤ 8 → length l ≡ 17 → Roomed m c l l 0
roomed_start m c l h e = record { few = h; done = omega arith; long = e; is = sym (rw e at (zipped_zeros l)) }

module _ {m r : ℕ} {c l x : List ℤ} (s : Roomed m c l x r) where
  pub roomed_more : {a b : ℤ} → r < m → a ≡ get_or l r (pos 0) -ℤ low c r → b ≡ get_or l (8 + r) (pos 0) -ℤ high c r → Roomed m c l (set (set x r a) (8 + r) b) (r + 1)
  roomed_more {a} {b} h ea eb =
      let old = drawn c r in
      let below : r < 8 = omega (arith, s.few) in
      let first : set x r a ≡ zipped ◌-ℤ◌ l (set old r (low c r)) =
      (λ i. set (s.is i) r (ea i)) ∙ zipped_set ◌-ℤ◌ l old r (get_or l r (pos 0)) (low c r) (s.long ∙ sym (drawn_long c r)) ∙ ap (λ k. zipped ◌-ℤ◌ k (set old r (low c r))) (set-get_or l r (pos 0)) in
      record {
        few = s.few;
        done = omega arith;
        long = s.long;
        is = (λ i. set (first i) (8 + r) (eb i))
            ∙ zipped_set ◌-ℤ◌ l (set old r (low c r)) (8 + r) (get_or l (8 + r) (pos 0)) (high c r) (s.long ∙ sym (length-set old r (low c r) ∙ drawn_long c r))
            ∙ (λ i. zipped ◌-ℤ◌ (set-get_or l (8 + r) (pos 0) i) (drawn_more c r below i));
      }

  pub roomed_end : {a : ℤ} → m ≤ r → eq_z (get_or c 0 (pos 0)) (pos 0) ≡ false → a ≡ get_or l 16 (pos 0) -ℤ get_or c (4 * m + 1) (pos 0) → set x 16 a ≡ zipped ◌-ℤ◌ l (down_lanes m c)
  roomed_end h there ea =
      let o : r ≡ m = omega (arith, s.done) in
      let cost = get_or c (4 * m + 1) (pos 0) in
      let last = get_or l 16 (pos 0) in
      let numbers : set (drawn c m) 16 cost ≡ down_lanes m c = set_at (lows c m ++ highs c m) (pos 0) [] cost 16 (both c m m) ∙ sym (down_is m c there) in
      (λ i. set (s.is i) 16 (ea i)) ∙ ap (λ k. set (zipped ◌-ℤ◌ l (drawn c k)) 16 (last -ℤ cost)) o ∙ zipped_set ◌-ℤ◌ l (drawn c m) 16 last cost (s.long ∙ sym (drawn_long c m))
      ∙ (λ i. zipped ◌-ℤ◌ (set-get_or l 16 (pos 0) i) (numbers i))

-- a sum is the difference from the number with its sign turned
pub plus_turned : (a b : ℤ) → a +ℤ b ≡ a -ℤ neg_ℤ b
plus_turned a b = omega (zarith, sum a b, neg b, dif a (neg_ℤ b))

-- as the code has them
module _ {a b : ℤ} (h : Within 4000000 a) (k : Within 4000000 b) where
  pub sum_told : back (back a +ℤ back b) ≡ a +ℤ b
  sum_told = rw (back_is h tt, back_is k tt) (back_is (sum_within h k) tt)

  pub dif_told : back (back a -ℤ back b) ≡ a -ℤ b
  dif_told = rw (back_is h tt, back_is k tt) (back_is (sum_within h (turned_within k)) tt)

-- ---- the three rooms
module _ (m : ℕ) (free : Bool) (limit c : List ℤ) where
  pub room_long : length limit ≡ 17 → length (room_lanes m free limit c) ≡ 17
  room_long wide = go (eq_z (get_or c 0 (pos 0)) (pos 0)) free
    where
      go : (s t : Bool) → length (cond s (replicate 17 (neg_ℤ (pos 4000000))) (cond t (replicate 17 (pos 4000000)) (zipped ◌-ℤ◌ limit (down_lanes m c)))) ≡ 17
      go true t = refl
      go false true = refl
      go false false = length-zipped ◌-ℤ◌ limit (down_lanes m c) (wide ∙ sym (down_long m c)) ∙ wide

  pub room_none : eq_z (get_or c 0 (pos 0)) (pos 0) ≡ true → replicate 17 (neg_ℤ (pos 4000000)) ≡ room_lanes m free limit c
  room_none e = sym (rw e refl)

  module _ (there : eq_z (get_or c 0 (pos 0)) (pos 0) ≡ false) where
    pub room_free : free ≡ true → replicate 17 (pos 4000000) ≡ room_lanes m free limit c
    room_free f = sym (rw (there, f) refl)

    pub room_limit : free ≡ false → zipped ◌-ℤ◌ limit (down_lanes m c) ≡ room_lanes m free limit c
    room_limit f = sym (rw (there, f) refl)
