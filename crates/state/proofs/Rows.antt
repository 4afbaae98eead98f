-- Which lanes does a state have, and which state stands at a place of a row?
use mathlib.Core.Path.{◌≡◌, refl, sym, ap, ◌∙◌}
use mathlib.Core.List.{List, [], ◌∷◌, ◌++◌, map, append_assoc}
use Prim.Native.Nat.{ℕ, zero, suc, ◌+◌, ◌*◌, ◌≤◌, ◌<◌}
use native.Mathlib.Nat.{add_assoc}
use native.Mathlib.Numerals.{add-one}
use native.Mathlib.Omega.{arith}
use lib.IntN.{ℤ, pos, neg_ℤ, ◌+ℤ◌}
use lib.ListN.{length, get_or, set, take, drop, length-map, length-drop, length-append}
use lib.Seq.{paste, paste-suc, length-paste, take-paste, drop-paste, take_all, take_at, drop_at, take-add, take-take, drop-drop, length-take-le, get_or-take, get_or-drop, set-append_left, take-set-lt, drop-set-lt}
use Rattle.laws.specs.Z.{min_z, Within}
use Rattle.laws.proofs.Lists.{get_or_map}
use Rattle.laws.proofs.Filled.{take_within}
use Rattle.laws.proofs.Each.{Each, each_take, each_drop}
use Rattle.lent.specs.Lanes.{zipped}
use Rattle.lent.proofs.Lanes.{neg_neg, neg_sum, neg_max}
use Rattle.meaning.specs.Diagram.{Pair, State, merged, merged_state}
use Rattle.state.specs.declared.Pair as pair
use Rattle.state.specs.Pairs.{pair_of, Inside, added, paired, pairs_at, unpaired}
use Rattle.state.proofs.Joined.{no_pair, joined, joined_append, joined_map, add, added_joined, merged_joined}
use Rattle.state.proofs.Sizes.{pairs_long, neg_size}
use Rattle.state.proofs.Turns.{filled, stored, zero_pair}

-- ---- a state's lanes
-- a pair's low, and its high with the sign turned
abbrev low : Pair → ℤ
low p = p.0

abbrev turned : Pair → ℤ
turned p = neg_ℤ p.1

-- two lanes to a pair
pub unpaired_length : (t : State) → length (unpaired t) ≡ 2 * length t
unpaired_length t = omega (arith, length-append (map low t) (map turned t), length-map t low, length-map t turned)

-- lane by lane what is done place by place
zipped_joined : (f : ℤ → ℤ → ℤ) (a b : List ℤ) → zipped f a b ≡ joined f a b
zipped_joined f [] b = refl
zipped_joined f (x ∷ a) [] = refl
zipped_joined f (x ∷ a) (y ∷ b) = ap (λ (l : List ℤ). f x y ∷ l) (zipped_joined f a b)

module _ (o : Pair → Pair → Pair) (f : ℤ → ℤ → ℤ) (lows : (p q : Pair) → low (o p q) ≡ f (low p) (low q)) (highs : (p q : Pair) → turned (o p q) ≡ f (turned p) (turned q)) where
  unpaired-joined : (a b : State) → length a ≡ length b → unpaired (joined o a b) ≡ zipped f (unpaired a) (unpaired b)
  unpaired-joined a b e =
      rw (joined_map low o f lows a b, joined_map turned o f highs a b, zipped_joined f (unpaired a) (unpaired b))
      (sym (joined_append f (map low a) (map turned a) (map low b) (map turned b) (length-map a low ∙ e ∙ sym (length-map b low))))

-- the lanes of a sum are the sums of the lanes
pub unpaired-added : (a b : State) → length a ≡ length b → unpaired (added a b) ≡ zipped ◌+ℤ◌ (unpaired a) (unpaired b)
unpaired-added a b e = ap unpaired (added_joined a b) ∙ unpaired-joined add ◌+ℤ◌ (λ p q. refl) (λ p q. neg_sum p.1 q.1) a b e

-- the lanes of a merged state are the leasts of the lanes
pub unpaired_merged : (a b : State) → length a ≡ length b → unpaired (merged_state a b) ≡ zipped min_z (unpaired a) (unpaired b)
unpaired_merged a b e = ap unpaired (merged_joined a b e) ∙ unpaired-joined merged min_z (λ p q. refl) (λ p q. neg_max p.1 q.1) a b e

-- ---- pairs of lows and turned highs
-- as many as there are lows
paired_length : (l h : List ℤ) → length l ≡ length h → length (paired l h) ≡ length l
paired_length [] h e = refl
paired_length (x ∷ l) [] e = absurd (omega arith)
paired_length (x ∷ l) (y ∷ h) e = ap suc (paired_length l h (omega arith))

paired_at : (l h : List ℤ) (k : ℕ) → k < length l → k < length h → get_or (paired l h) k no_pair ≡ (get_or l k (pos 0), neg_ℤ (get_or h k (pos 0)))
paired_at [] h k a b = absurd (omega arith)
paired_at (x ∷ l) [] k a b = absurd (omega arith)
paired_at (x ∷ l) (y ∷ h) zero a b = refl
paired_at (x ∷ l) (y ∷ h) (suc k) a b = paired_at l h k (omega arith) (omega arith)

-- their lows, and their turned highs
paired_lows : (l h : List ℤ) → length l ≡ length h → map low (paired l h) ≡ l
paired_lows [] h e = refl
paired_lows (x ∷ l) [] e = absurd (omega arith)
paired_lows (x ∷ l) (y ∷ h) e = ap (λ (m : List ℤ). x ∷ m) (paired_lows l h (omega arith))

paired_highs : (l h : List ℤ) → length l ≡ length h → map turned (paired l h) ≡ h
paired_highs [] [] e = refl
paired_highs [] (y ∷ h) e = absurd (omega arith)
paired_highs (x ∷ l) [] e = absurd (omega arith)
paired_highs (x ∷ l) (y ∷ h) e = λ i. neg_neg y i ∷ paired_highs l h (omega arith) i

-- the pairs of a state's own lanes
paired_lanes : (t : State) → paired (map low t) (map turned t) ≡ t
paired_lanes [] = refl
paired_lanes (p ∷ t) = λ i. (p.0, neg_neg p.1 i) ∷ paired_lanes t i

-- turned or not, a number has its size
paired_inside : (b : ℕ) (l h : List ℤ) → Each (Within b) l → Each (Within b) h → Inside b (paired l h)
paired_inside b [] h i j = tt
paired_inside b (x ∷ l) [] i j = tt
paired_inside b (x ∷ l) (y ∷ h) i j = ((i.0, record { size = omega (arith, neg_size y, j.0.size) }), paired_inside b l h i.1 j.1)

-- ---- the state at a place of a row
-- n lanes of a row from a place on, if it goes so far
row_long : (row : List ℤ) (at n : ℕ) → at + n ≤ length row → length (take n (drop at row)) ≡ n
row_long row at n h = length-take-le n (drop at row) (omega (arith, length-drop at row))

row_at : (row : List ℤ) (at k n : ℕ) → k < n → get_or (take n (drop at row)) k (pos 0) ≡ get_or row (at + k) (pos 0)
row_at row at k n h = get_or-take n (drop at row) k (pos 0) h ∙ get_or-drop at row k (pos 0)

-- no greater than the lanes of the row
pub inside_row : (b : ℕ) (row : List ℤ) (at : ℕ) → Each (Within b) row → Inside b (pairs_at row at)
inside_row b row at h =
    paired_inside b (take 8 (drop at row)) (take 8 (drop (at + 8) row)) (each_take (Within b) 8 (drop at row) (each_drop (Within b) at row h))
    (each_take (Within b) 8 (drop (at + 8) row) (each_drop (Within b) (at + 8) row h))

-- 16 lanes: eight, and eight
halves : (row : List ℤ) (at : ℕ) → take 16 (drop at row) ≡ take 8 (drop at row) ++ take 8 (drop (at + 8) row)
halves row at = take-add 8 8 (drop at row) ∙ ap (λ (l : List ℤ). take 8 (drop at row) ++ take 8 l) (drop-drop 8 at row)

module _ (row : List ℤ) (at : ℕ) (room : at + 16 ≤ length row) where
  -- eight lows and eight highs
  lows_long : length (take 8 (drop at row)) ≡ 8
  lows_long = row_long row at 8 (omega arith)

  highs_long : length (take 8 (drop (at + 8) row)) ≡ 8
  highs_long = row_long row (at + 8) 8 (omega arith)

  both_long : length (take 8 (drop at row)) ≡ length (take 8 (drop (at + 8) row))
  both_long = lows_long ∙ sym highs_long

  -- eight pairs
  pub pairs_length : length (pairs_at row at) ≡ 8
  pairs_length = paired_length (take 8 (drop at row)) (take 8 (drop (at + 8) row)) both_long ∙ lows_long

  -- whose lanes are the row's
  pub pairs_lanes : unpaired (pairs_at row at) ≡ take 16 (drop at row)
  pairs_lanes =
      rw (paired_lows (take 8 (drop at row)) (take 8 (drop (at + 8) row)) both_long, paired_highs (take 8 (drop at row)) (take 8 (drop (at + 8) row)) both_long) (sym (halves row at))

  -- the pair of place k
  pairs_at_lem : (k : ℕ) → k < 8 → get_or (pairs_at row at) k no_pair ≡ (get_or row (at + k) (pos 0), neg_ℤ (get_or row (at + 8 + k) (pos 0)))
  pairs_at_lem k h =
      paired_at (take 8 (drop at row)) (take 8 (drop (at + 8) row)) k (omega (arith, lows_long)) (omega (arith, highs_long))
      ∙ rw (row_at row at k 8 h, row_at row (at + 8) k 8 h)

-- the state whose lanes stand there
pub pairs_of : (row : List ℤ) (at : ℕ) (t : State) → length t ≡ 8 → take 16 (drop at row) ≡ unpaired t → pairs_at row at ≡ t
pairs_of row at t n e =
    let long = length-map t low ∙ n in
    let lows : take 8 (drop at row) ≡ map low t = sym (take-take 8 16 (drop at row) (omega arith)) ∙ ap (take 8) e ∙ take_at (map low t) (map turned t) 8 long in
    let behind : take 8 (drop (at + 8) row) ≡ take 8 (drop 8 (take 16 (drop at row))) = ap (take 8) (sym (drop-drop 8 at row)) ∙ sym (take_within 8 8 16 (drop at row) (omega arith)) in
    let highs : take 8 (drop (at + 8) row) ≡ map turned t = behind ∙ ap (λ (l : List ℤ). take 8 (drop 8 l)) e ∙ ap (take 8) (drop_at (map low t) (map turned t) 8 long) ∙ take_all 8 (map turned t) (omega (arith, length-map t turned)) in
    rw (lows, highs) (paired_lanes t)

-- ---- a loop that lays a state at a place of a row
-- a store in front of what is pasted
set-paste : (d : List ℤ) (at : ℕ) (s : List ℤ) (n i : ℕ) (x : ℤ) → i < at → at ≤ length d → set (paste d at s n) i x ≡ paste (set d i x) at s n
set-paste d at s n i x h l =
    let front = length-take-le at d l in
    rw (set-append_left (take at d ++ take n s) (drop (at + n) d) i x (omega (arith, length-append (take at d) (take n s))), set-append_left (take at d) (take n s) i x (omega arith), take-set-lt at d i x h, drop-set-lt (at + n) d i x (omega arith))

-- one paste behind the other
paste_twice : (d : List ℤ) (at : ℕ) (s u : List ℤ) (n m : ℕ) → at ≤ length d → length s ≡ n → length u ≡ m → paste (paste d at s n) (at + n) u m ≡ paste d at (s ++ u) (n + m)
paste_twice d at s u n m h e f =
    let rest : drop (at + n + m) (paste d at s n) ≡ drop (at + (n + m)) d = sym (drop-drop m (at + n) (paste d at s n)) ∙ ap (drop m) (drop-paste d at s n h (omega arith)) ∙ drop-drop m (at + n) d ∙ ap (λ (k : ℕ). drop k d) (add_assoc at n m) in
    rw (rest, take-paste d at s n h (omega arith), take_all n s (omega arith), take_all m u (omega arith), take_all (n + m) (s ++ u) (omega (arith, length-append s u)), append_assoc (take at d) s u)

-- the row after k places: k lows, and k turned highs eight places behind
abbrev pub laid_to : List ℤ → ℕ → State → ℕ → List ℤ
laid_to d at t k = paste (paste d at (map (λ p. p.0) t) k) (at + 8) (map (λ p. neg_ℤ p.1) t) k

module _ (d : List ℤ) (at : ℕ) (s : List pair.Pair) (long : length s ≡ 8) (room : at + 16 ≤ length d) where
  -- one place more
  pub laid_more : (k : ℕ) → k < 8 → set (set (laid_to d at (map pair_of s) k) (at + k) (get_or s k zero_pair).lo) (at + 8 + k) (get_or s k zero_pair).hi ≡ laid_to d at (map pair_of s) (k + 1)
  laid_more k h =
      let t = map pair_of s in
      let e = pairs_long s long in
      let lows = map low t in
      let highs = map turned t in
      let m = length-map t low in
      let n = length-map t turned in
      let here = get_or_map pair_of s k zero_pair no_pair (omega arith) in
      let low_is : get_or lows k (pos 0) ≡ (get_or s k zero_pair).lo = get_or_map low t k no_pair (pos 0) (omega arith) ∙ ap low here in
      let high_is : get_or highs k (pos 0) ≡ (get_or s k zero_pair).hi = get_or_map turned t k no_pair (pos 0) (omega arith) ∙ ap turned here ∙ neg_neg (get_or s k zero_pair).hi in
      rw (add-one, ← low_is, ← high_is)
      (rw (set-paste (paste d at lows k) (at + 8) highs k (at + k) (get_or lows k (pos 0)) (omega arith) (omega (arith, length-paste d at lows k (omega arith) (omega arith))), paste-suc d at lows k (pos 0) (omega arith) (omega arith))
      (paste-suc (paste d at lows (suc k)) (at + 8) highs k (pos 0) (omega (arith, length-paste d at lows (suc k) (omega arith) (omega arith))) (omega arith)))

  -- all eight
  pub laid_all : laid_to d at (map pair_of s) 8 ≡ paste d at (unpaired (map pair_of s)) 16
  laid_all =
      let t = map pair_of s in
      paste_twice d at (map low t) (map turned t) 8 8 (omega arith) (length-map t low ∙ pairs_long s long) (length-map t turned ∙ pairs_long s long)

-- ---- a turn of the loop that takes a state from a row
pub taken_more : (row : List ℤ) (at : ℕ) → at + 16 ≤ length row → (k : ℕ) → k < 8 → (s : List pair.Pair) (a : State) → length a ≡ 8 → map pair_of s ≡ filled k (pairs_at row at) a
    → map pair_of (set s k (record { lo = get_or row (at + k) (pos 0); hi = get_or row (at + 8 + k) (pos 0) })) ≡ filled (k + 1) (pairs_at row at) a
taken_more row at room k h s a n e =
    stored pair_of s k (record { lo = get_or row (at + k) (pos 0); hi = get_or row (at + 8 + k) (pos 0) }) (pairs_at row at) a no_pair (omega (arith, pairs_length row at room)) (omega arith) e (sym (pairs_at_lem row at room k h))
