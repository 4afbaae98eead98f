-- How long are lanes, how great, and what has a loop over the 17 places done at each turn?
use mathlib.Core.Path.{◌≡◌, refl, sym, ap, ◌∙◌}
use mathlib.Core.List.{List, [], ◌∷◌, ◌++◌, map}
use mathlib.Core.Bool.{Bool, true, false, ◌&&◌, cond}
use Prim.Native.Nat.{ℕ, zero, suc, ◌+◌, ◌-◌, ◌*◌, ◌≤◌, ◌<◌}
use native.Mathlib.Numerals.{add-one}
use native.Mathlib.Omega.{arith}
use native.Mathlib.Decide.{dec_lt}
use lib.ListN.{length, get_or, set, take, drop, length-map, length-set, length-drop, drop_of_length-le}
use lib.Seq.{paste, length-take-le, get_or-take, get_or-drop, get_or-set_same, get_or-set_other, drop-cons, ext_get_or}
use lib.IntN.{ℤ, pos, neg_ℤ, ◌+ℤ◌, ◌-ℤ◌}
use lib.Signed.{le_z, lt_z}
use Rattle.laws.specs.Z.{zarith, neg, parts, min_z, Within, sum_within}
use Rattle.laws.proofs.Lists.{get_or_map, and_true, and_false}
use Rattle.laws.proofs.Each.{Each, each_at, each_append, each_map, each_take, each_drop}
use Rattle.laws.proofs.Filled.{part_pasted, padded_full}
use Rattle.laws.proofs.Reached.{Reached, reached_more, reached_all}
use Rattle.lent.specs.Lanes.{lanes_at, arc_at, zipped, sums, leasts, at_most}
use Rattle.lent.proofs.Lanes.{block, length-block, block_low, block_high, block_cost}

-- ---- the lanes at a place
pub length_lanes : (row : List ℤ) (at : ℕ) → at + 17 ≤ length row → length (lanes_at row at) ≡ 17
length_lanes row at h = length-take-le 17 (drop at row) (omega (arith, length-drop at row))

pub lanes_pasted : (row : List ℤ) (at : ℕ) (x : List ℤ) → at ≤ length row → length x ≡ 17 → lanes_at (paste row at x 17) at ≡ x
lanes_pasted row at x h e = part_pasted row at x 17 h e

pub lane_at : (row : List ℤ) (at k : ℕ) → k < 17 → get_or (lanes_at row at) k (pos 0) ≡ get_or row (at + k) (pos 0)
lane_at row at k h = get_or-take 17 (drop at row) k (pos 0) h ∙ get_or-drop at row k (pos 0)

pub lane_within : {m : ℕ} (x : List ℤ) (k : ℕ) → Each (Within m) x → Within m (get_or x k (pos 0))
lane_within {m} x k h = each_at (Within m) x k (pos 0) (record { size = omega arith }) h

-- ---- lane by lane
module _ (f : ℤ → ℤ → ℤ) where
  pub length-zipped : (x y : List ℤ) → length x ≡ length y → length (zipped f x y) ≡ length x
  length-zipped [] y e = refl
  length-zipped (a ∷ x) [] e = absurd (omega arith)
  length-zipped (a ∷ x) (b ∷ y) e = ap suc (length-zipped x y (omega arith))

  pub zipped_at : (x y : List ℤ) (k : ℕ) → k < length x → k < length y → get_or (zipped f x y) k (pos 0) ≡ f (get_or x k (pos 0)) (get_or y k (pos 0))
  zipped_at [] y k h l = absurd (omega arith)
  zipped_at (a ∷ x) [] k h l = absurd (omega arith)
  zipped_at (a ∷ x) (b ∷ y) zero h l = refl
  zipped_at (a ∷ x) (b ∷ y) (suc k) h l = zipped_at x y k (omega arith) (omega arith)

  pub each_zipped : (P Q R : ℤ → Type 0) → ((a b : ℤ) → P a → Q b → R (f a b)) → (x y : List ℤ) → Each P x → Each Q y → Each R (zipped f x y)
  each_zipped P Q R g [] y h l = tt
  each_zipped P Q R g (a ∷ x) [] h l = tt
  each_zipped P Q R g (a ∷ x) (b ∷ y) h l = (g a b h.0 l.0, each_zipped P Q R g x y h.1 l.1)

pub each_sums : (m n : ℕ) (x y : List ℤ) → Each (Within m) x → Each (Within n) y → Each (Within (m + n)) (sums x y)
each_sums m n = each_zipped ◌+ℤ◌ (Within m) (Within n) (Within (m + n)) (λ a b h l. sum_within h l)

pub each_leasts : (P : ℤ → Type 0) (x y : List ℤ) → Each P x → Each P y → Each P (leasts x y)
each_leasts P = each_zipped min_z P P P (λ a b h l. either (le_z a b) a b h l)
  where
    either : (t : Bool) (a b : ℤ) → P a → P b → P (cond t a b)
    either true a b h l = h
    either false a b h l = l

-- a loop that writes over x, lane by lane, what f makes of x and y
module _ (f : ℤ → ℤ → ℤ) (x y : List ℤ) (wide : length x ≡ 17) (same : length y ≡ 17) where
  pub zipped_more : {z : List ℤ} {k : ℕ} (v : ℤ) → Reached (zipped f x y) x z k → k < 17 → v ≡ f (get_or x k (pos 0)) (get_or y k (pos 0)) → Reached (zipped f x y) x (set z k v) (k + 1)
  zipped_more {k = k} v r h e =
      let long = length-zipped f x y (wide ∙ sym same) in
      reached_more r (pos 0) v (omega (arith, r.long)) (omega arith) (e ∙ sym (zipped_at f x y k (omega arith) (omega arith)))

  pub zipped_all : {z : List ℤ} {k : ℕ} → Reached (zipped f x y) x z k → 17 ≤ k → z ≡ zipped f x y
  zipped_all r h = reached_all r (pos 0) (omega (arith, r.long)) (length-zipped f x y (wide ∙ sym same))

-- ---- a loop that lays a low and a high in each turn: z has those of s at the first k places, and at those from m on
pub record Halved (s z : List ℤ) (m k : ℕ) : Type 0 where
  pub long : length s ≡ 17
  pub wide : length z ≡ 17
  pub few : m ≤ 8
  pub done : k ≤ m
  pub first : (j : ℕ) → j < k → (get_or z j (pos 0) ≡ get_or s j (pos 0)) × (get_or z (8 + j) (pos 0) ≡ get_or s (8 + j) (pos 0))
  pub rest : (j : ℕ) → m ≤ j → j < 8 → (get_or z j (pos 0) ≡ get_or s j (pos 0)) × (get_or z (8 + j) (pos 0) ≡ get_or s (8 + j) (pos 0))

module _ {s z : List ℤ} {m k : ℕ} (l : Halved s z m k) where
  -- one place more
  pub halved_more : {a b : ℤ} → k < m → a ≡ get_or s k (pos 0) → b ≡ get_or s (8 + k) (pos 0) → Halved s (set (set z k a) (8 + k) b) m (k + 1)
  halved_more {a} {b} h ea eb = record {
    long = l.long;
    wide = length-set (set z k a) (8 + k) b ∙ length-set z k a ∙ l.wide;
    few = l.few;
    done = omega arith;
    first = λ j f. elim (dec_lt j k) [
      | yes g ↦ (other j (omega (arith, l.few)) (λ e. omega arith) ∙ (l.first j g).0, behind j (λ e. omega arith) ∙ (l.first j g).1)
      | no g ↦ let e : j ≡ k = omega arith in rw e here
    ];
    rest = λ j f g. (other j (omega arith) (λ e. omega arith) ∙ (l.rest j f g).0, behind j (λ e. omega arith) ∙ (l.rest j f g).1);
  }
    where
      there : 8 + k < length (set z k a)
      there = omega (arith, length-set z k a, l.wide, l.few)

      here : (get_or (set (set z k a) (8 + k) b) k (pos 0) ≡ get_or s k (pos 0)) × (get_or (set (set z k a) (8 + k) b) (8 + k) (pos 0) ≡ get_or s (8 + k) (pos 0))
      here = (
        get_or-set_other (set z k a) (8 + k) k b (pos 0) (λ e. omega arith) ∙ get_or-set_same z k a (pos 0) (omega (arith, l.wide, l.few)) ∙ ea,
        get_or-set_same (set z k a) (8 + k) b (pos 0) there ∙ eb,
      )

      other : (j : ℕ) → j < 8 → (j ≡ k → ⊥) → get_or (set (set z k a) (8 + k) b) j (pos 0) ≡ get_or z j (pos 0)
      other j f g = get_or-set_other (set z k a) (8 + k) j b (pos 0) (λ e. omega arith) ∙ get_or-set_other z k j a (pos 0) g

      behind : (j : ℕ) → (j ≡ k → ⊥) → get_or (set (set z k a) (8 + k) b) (8 + j) (pos 0) ≡ get_or z (8 + j) (pos 0)
      behind j g = get_or-set_other (set z k a) (8 + k) (8 + j) b (pos 0) (λ e. g (omega arith)) ∙ get_or-set_other z k (8 + j) a (pos 0) (λ e. omega (arith, l.few))

  -- all of them, and the cost
  pub halved_end : {c : ℤ} → m ≤ k → c ≡ get_or s 16 (pos 0) → set z 16 c ≡ s
  halved_end {c} h e = ext_get_or (pos 0) (set z 16 c) s (length-set z 16 c ∙ l.wide ∙ sym l.long) at_place
    where
      half : (j : ℕ) → j < 8 → (get_or z j (pos 0) ≡ get_or s j (pos 0)) × (get_or z (8 + j) (pos 0) ≡ get_or s (8 + j) (pos 0))
      half j f = elim (dec_lt j k) [ yes g ↦ l.first j g | no g ↦ l.rest j (omega arith) f ]

      at_place : (j : ℕ) → j < length (set z 16 c) → get_or (set z 16 c) j (pos 0) ≡ get_or s j (pos 0)
      at_place j f = elim (dec_lt j 16) [
        | yes g ↦ get_or-set_other z 16 j c (pos 0) (λ o. omega arith) ∙ elim (dec_lt j 8) [
          | yes b ↦ (half j b).0
          | no b ↦ let o : 8 + (j - 8) ≡ j = omega arith in rw o at (half (j - 8) (omega arith)).1
        ]
        | no g ↦ let o : j ≡ 16 = omega (arith, length-set z 16 c, l.wide) in rw o (get_or-set_same z 16 c (pos 0) (omega (arith, l.wide)) ∙ e)
      ]

-- ---- the lanes of an arc: eight shares, the same with their signs turned, the price
pub turned_within : {m : ℕ} {z : ℤ} → Within m z → Within m (neg_ℤ z)
turned_within {m} {z} h = record { size = omega (arith, h.size, neg z, parts z, parts (neg_ℤ z)) }

pub each_arc : (m : ℕ) (row : List ℤ) (v : ℕ) → Each (Within m) row → Each (Within m) (arc_at row v)
each_arc m row v e =
    let shares = take 8 (drop (v * 8) row) in
    let own = each_take (Within m) 8 (drop (v * 8) row) (each_drop (Within m) (v * 8) row e) in
    each_append (Within m) (shares ++ map neg_ℤ shares) (get_or row (64 + v) (pos 0) ∷ [])
    (each_append (Within m) shares (map neg_ℤ shares) own (each_map (Within m) (Within m) neg_ℤ (λ z k. turned_within k) shares own)) (lane_within row (64 + v) e, tt)

module _ (row : List ℤ) (v : ℕ) (long : length row ≡ 72) (h : v < 8) where
  abbrev shares : List ℤ
  shares = take 8 (drop (v * 8) row)

  eight : length shares ≡ 8
  eight = length-take-le 8 (drop (v * 8) row) (omega (arith, length-drop (v * 8) row))

  turned : length (map neg_ℤ shares) ≡ 8
  turned = length-map shares neg_ℤ ∙ eight

  blocks : block (pos 0) shares (map neg_ℤ shares) (get_or row (64 + v) (pos 0)) ≡ arc_at row v
  blocks = λ i. padded_full 8 (pos 0) shares eight i ++ padded_full 8 (pos 0) (map neg_ℤ shares) turned i ++ (get_or row (64 + v) (pos 0) ∷ [])

  pub length_arc : length (arc_at row v) ≡ 17
  length_arc = ap length (sym blocks) ∙ length-block (pos 0) shares (map neg_ℤ shares) (get_or row (64 + v) (pos 0))

  share : (k : ℕ) → k < 8 → get_or shares k (pos 0) ≡ get_or row (v * 8 + k) (pos 0)
  share k b = get_or-take 8 (drop (v * 8) row) k (pos 0) b ∙ get_or-drop (v * 8) row k (pos 0)

  -- lanes with those of the arc added
  module _ (x : List ℤ) (wide : length x ≡ 17) where
    pub along_low : (k : ℕ) → k < 8 → get_or (sums x (arc_at row v)) k (pos 0) ≡ get_or x k (pos 0) +ℤ get_or row (v * 8 + k) (pos 0)
    along_low k b =
        zipped_at ◌+ℤ◌ x (arc_at row v) k (omega arith) (omega (arith, length_arc))
        ∙ ap (λ (l : List ℤ). get_or x k (pos 0) +ℤ get_or l k (pos 0)) (sym blocks) ∙ ap (λ (z : ℤ). get_or x k (pos 0) +ℤ z) (block_low (pos 0) shares (map neg_ℤ shares) (get_or row (64 + v) (pos 0)) k b ∙ share k b)

    pub along_high : (k : ℕ) → k < 8 → get_or (sums x (arc_at row v)) (8 + k) (pos 0) ≡ get_or x (8 + k) (pos 0) -ℤ get_or row (v * 8 + k) (pos 0)
    along_high k b =
        zipped_at ◌+ℤ◌ x (arc_at row v) (8 + k) (omega arith) (omega (arith, length_arc))
        ∙ ap (λ (l : List ℤ). get_or x (8 + k) (pos 0) +ℤ get_or l (8 + k) (pos 0)) (sym blocks)
        ∙ ap (λ (z : ℤ). get_or x (8 + k) (pos 0) +ℤ z) (block_high (pos 0) shares (map neg_ℤ shares) (get_or row (64 + v) (pos 0)) k b ∙ get_or_map neg_ℤ shares k (pos 0) (pos 0) (omega (arith, eight)) ∙ ap neg_ℤ (share k b))

    pub along_cost : get_or (sums x (arc_at row v)) 16 (pos 0) ≡ get_or x 16 (pos 0) +ℤ get_or row (64 + v) (pos 0)
    along_cost =
        zipped_at ◌+ℤ◌ x (arc_at row v) 16 (omega arith) (omega (arith, length_arc))
        ∙ ap (λ (l : List ℤ). get_or x 16 (pos 0) +ℤ get_or l 16 (pos 0)) (sym blocks) ∙ ap (λ (z : ℤ). get_or x 16 (pos 0) +ℤ z) (block_cost (pos 0) shares (map neg_ℤ shares) (get_or row (64 + v) (pos 0)) (pos 0))

    pub along_start : Halved (sums x (arc_at row v)) x 8 0
    along_start = record {
      long = length-zipped ◌+ℤ◌ x (arc_at row v) (wide ∙ sym length_arc) ∙ wide;
      wide = wide;
      few = omega arith;
      done = omega arith;
      first = λ j b. absurd (omega arith);
      rest = λ j b c. absurd (omega arith);
    }

-- ---- a loop that asks of each lane whether it is at most its limit: `ok` is what it has after k of them
-- one lane above its limit decides
pub one_above : (x y : List ℤ) (k : ℕ) → k < length x → k < length y → lt_z (get_or y k (pos 0)) (get_or x k (pos 0)) ≡ true → at_most x y ≡ false
one_above [] y k h l e = absurd (omega arith)
one_above (a ∷ x) [] k h l e = absurd (omega arith)
one_above (a ∷ x) (b ∷ y) zero h l e = let o : le_z a b ≡ false = omega zarith in rw o refl
one_above (a ∷ x) (b ∷ y) (suc k) h l e = and_false (le_z a b) (at_most x y) (one_above x y k (omega arith) (omega arith) e)

pub record Asked (x y : List ℤ) (ok : Bool) (k : ℕ) : Type 0 where
  pub wide : length x ≡ 17
  pub same : length y ≡ 17
  pub is : (ok && at_most (drop k x) (drop k y)) ≡ at_most x y

module _ {x y : List ℤ} {ok : Bool} {k : ℕ} (a : Asked x y ok k) where
  turn : k < 17 → (t : Bool) → le_z (get_or x k (pos 0)) (get_or y k (pos 0)) ≡ t → at_most x y ≡ (ok && (t && at_most (drop (k + 1) x) (drop (k + 1) y)))
  turn h t e =
      sym a.is
      ∙ rw (drop-cons x k (pos 0) (omega (arith, a.wide)), drop-cons y k (pos 0) (omega (arith, a.same)), e, add-one)

  pub asked_above : k < 17 → lt_z (get_or y k (pos 0)) (get_or x k (pos 0)) ≡ true → Asked x y false (k + 1)
  asked_above h e = record { wide = a.wide; same = a.same; is = sym (turn h false (omega zarith) ∙ and_false ok false refl) }

  pub asked_within : k < 17 → lt_z (get_or y k (pos 0)) (get_or x k (pos 0)) ≡ false → Asked x y ok (k + 1)
  asked_within h e = record { wide = a.wide; same = a.same; is = sym (turn h true (omega zarith)) }

  asked_end : 17 ≤ k → ok ≡ at_most x y
  asked_end h =
      let none : drop k x ≡ [] = drop_of_length-le x {i = k} (omega (arith, a.wide)) in
      sym (and_true ok true refl) ∙ rw none at a.is

-- after 16 lanes, where the last is within its limit
pub asked_all : {x y : List ℤ} {ok : Bool} {k : ℕ} → Asked x y ok k → k ≡ 16 → lt_z (get_or y 16 (pos 0)) (get_or x 16 (pos 0)) ≡ false → ok ≡ at_most x y
asked_all a h e = asked_end (asked_within a (omega arith) (rw h e)) (omega arith)
