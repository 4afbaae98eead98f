-- Does a loop over the places of a state do one place more in a turn, and all of them in the end?
use mathlib.Core.Path.{◌≡◌, refl, sym, ap, ◌∙◌}
use mathlib.Core.List.{List, [], ◌∷◌, ◌++◌, map, append-nil}
use mathlib.Core.Bool.{Bool, true, false, ◌&&◌, cond, true≢false}
use Prim.Native.Nat.{ℕ, zero, suc, ◌+◌, ◌^◌, ◌≤◌, ◌<◌}
use native.Mathlib.Numerals.{add-one}
use native.Mathlib.Omega.{arith}
use lib.IntN.{ℤ, pos, neg_ℤ, ◌-ℤ◌}
use lib.ListN.{length, get_or, set, take, drop, drop_of_length-le}
use lib.Seq.{take_all}
use lib.Signed.{mag, le_z, lt_z}
use mir.Syntax.{w32}
use mir.Val.{SFits}
use mir.Facts.{to_z-of_z}
use Rattle.laws.specs.Z.{Within, zarith, min_z, max_z, back, told}
use Rattle.std.specs.Bool.{Decides}
use Rattle.std.specs.Int.{int_min}
use Rattle.laws.proofs.Lists.{get_or_map, and_true, and_false, no_true}
use Rattle.meaning.proofs.Sound.{eq_state→}
use Rattle.lent.proofs.FirstOrder.{eq_state_yes}
use Rattle.lent.proofs.Lanes.{neg_neg, neg_sum, neg_max}
use Rattle.meaning.specs.Diagram as paper
use Rattle.state.specs.declared.Pair.{Pair}
use Rattle.state.specs.Pairs.{pair_of, Inside}
use Rattle.state.proofs.Sizes.{pairs_long, neg_size, dif_back}
use Rattle.state.proofs.Joined.{no_pair, joined, joined_length, joined_at, lessen, all}

-- two states of eight places
pub same_long : (s u : List Pair) → length s ≡ 8 → length u ≡ 8 → length (map pair_of s) ≡ length (map pair_of u)
same_long s u e f = pairs_long s e ∙ sym (pairs_long u f)

-- ---- a loop that stores: the first k places of r, the others as they were in a
module _ {A : Type 0} where
  abbrev pub filled : ℕ → List A → List A → List A
  filled k r a = take k r ++ drop k a

  more : (k : ℕ) (r a : List A) (d : A) → k < length r → k < length a → set (filled k r a) k (get_or r k d) ≡ filled (suc k) r a
  more k [] a d h l = absurd (omega arith)
  more k (x ∷ r) [] d h l = absurd (omega arith)
  more zero (x ∷ r) (y ∷ a) d h l = refl
  more (suc k) (x ∷ r) (y ∷ a) d h l = ap (λ (m : List A). x ∷ m) (more k r a d (omega arith) (omega arith))

  pub filled_all : (k : ℕ) (r a : List A) → length r ≤ k → length a ≤ k → filled k r a ≡ r
  filled_all k r a h l = rw (take_all k r h, drop_of_length-le a l) (append-nil r)

-- of what g makes of the elements
set_map : {A B : Type 0} (g : A → B) (l : List A) (k : ℕ) (x : A) → map g (set l k x) ≡ set (map g l) k (g x)
set_map g [] k x = refl
set_map g (y ∷ l) zero x = refl
set_map {B = B} g (y ∷ l) (suc k) x = ap (λ (m : List B). g y ∷ m) (set_map g l k x)

pub stored : {A B : Type 0} (g : A → B) (l : List A) (k : ℕ) (x : A) (r a : List B) (d : B) → k < length r → k < length a
    → map g l ≡ filled k r a → g x ≡ get_or r k d → map g (set l k x) ≡ filled (k + 1) r a
stored g l k x r a d h b e v = set_map g l k x ∙ rw (e, v, add-one) (more k r a d h b)

-- the pair of a place that is not there
abbrev pub zero_pair : Pair
zero_pair = record { lo = pos 0; hi = pos 0 }

-- a pair of state s and what stands at the same place of b make the pair that is stored
abbrev pub JoinedTo : (paper.Pair → paper.Pair → paper.Pair) → List Pair → paper.State → ℕ → List Pair → Type 0
JoinedTo f s b k t = map pair_of t ≡ filled k (joined f (map pair_of s) b) (map pair_of s)

module _ (f : paper.Pair → paper.Pair → paper.Pair) (s : List Pair) (b : paper.State) (long : length s ≡ 8) (wide : length b ≡ 8) where
  both_long : (length (map pair_of s) ≡ 8) × (length (joined f (map pair_of s) b) ≡ 8)
  both_long =
      let e = pairs_long s long in
      (e, joined_length f (map pair_of s) b (e ∙ sym wide) ∙ e)

  pub join_more : (t : List Pair) (k : ℕ) (x : Pair) → k < 8 → JoinedTo f s b k t → pair_of x ≡ f (pair_of (get_or s k zero_pair)) (get_or b k no_pair) → JoinedTo f s b (k + 1) (set t k x)
  join_more t k x h e v =
      let n = both_long in
      let value = joined_at f (map pair_of s) b k no_pair no_pair no_pair (omega arith) (omega arith) in
      stored pair_of t k x (joined f (map pair_of s) b) (map pair_of s) no_pair (omega arith) (omega arith) e
      (v ∙ ap (λ p. f p (get_or b k no_pair)) (sym (get_or_map pair_of s k zero_pair no_pair (omega arith))) ∙ sym value)

-- the same of two states
module _ (f : paper.Pair → paper.Pair → paper.Pair) (s u : List Pair) (long : length s ≡ 8) (wide : length u ≡ 8) where
  pub pair_more : (t : List Pair) (k : ℕ) (x : Pair) → k < 8 → JoinedTo f s (map pair_of u) k t → pair_of x ≡ f (pair_of (get_or s k zero_pair)) (pair_of (get_or u k zero_pair)) → JoinedTo f s (map pair_of u) (k + 1) (set t k x)
  pair_more t k x h e v =
      join_more f s (map pair_of u) long (pairs_long u wide) t k x h e (v ∙ ap (f (pair_of (get_or s k zero_pair))) (sym (get_or_map pair_of u k zero_pair no_pair (omega arith))))

-- ---- a loop that tests: whether o holds, and all of the first k places of two states pass
abbrev pub TestedTo : (paper.Pair → paper.Pair → Bool) → Bool → List Pair → List Pair → ℕ → Bool → Type 0
TestedTo f o s u k ok = ok ≡ (o && all (take k (joined f (map pair_of s) (map pair_of u))))

all_more : (o : Bool) (k : ℕ) (l : List Bool) → k < length l → ((o && all (take k l)) && get_or l k true) ≡ (o && all (take (suc k) l))
all_more o k [] h = absurd (omega arith)
all_more false k (b ∷ l) h = refl
all_more true zero (true ∷ l) h = refl
all_more true zero (false ∷ l) h = refl
all_more true (suc k) (true ∷ l) h = all_more true k l (omega arith)
all_more true (suc k) (false ∷ l) h = refl

module _ (f : paper.Pair → paper.Pair → Bool) (o : Bool) (s u : List Pair) (long : length s ≡ 8) (wide : length u ≡ 8) where
  tests_long : length (joined f (map pair_of s) (map pair_of u)) ≡ 8
  tests_long = joined_length f (map pair_of s) (map pair_of u) (same_long s u long wide) ∙ pairs_long s long

  pub test_more : (k : ℕ) (ok next : Bool) → k < 8 → TestedTo f o s u k ok → next ≡ (ok && f (pair_of (get_or s k zero_pair)) (pair_of (get_or u k zero_pair))) → TestedTo f o s u (k + 1) next
  test_more k ok next h e v =
      let tests = joined f (map pair_of s) (map pair_of u) in
      let one = joined_at f (map pair_of s) (map pair_of u) k no_pair no_pair true (omega (arith, pairs_long s long)) (omega (arith, pairs_long u wide)) in
      let value = rw (get_or_map pair_of s k zero_pair no_pair (omega arith), get_or_map pair_of u k zero_pair no_pair (omega arith)) at one in
      v ∙ rw (← value, e, add-one) (all_more o k tests (omega (arith, tests_long)))

  pub test_all : (k : ℕ) (ok : Bool) → 8 ≤ k → TestedTo f o s u k ok → ok ≡ (o && all (joined f (map pair_of s) (map pair_of u)))
  test_all k ok h e = e ∙ ap (λ l. o && all l) (take_all k (joined f (map pair_of s) (map pair_of u)) (omega (arith, tests_long)))

-- before the first place
pub test_none : (f : paper.Pair → paper.Pair → Bool) (o : Bool) (s u : List Pair) (ok : Bool) → ok ≡ o → TestedTo f o s u 0 ok
test_none f o s u ok e = e ∙ sym (and_true o true refl)

-- a branch that sets a flag to false where one number is above the other
module _ (ok next : Bool) (a b : ℤ) where
  pub above : next ≡ false → lt_z b a ≡ true → next ≡ (ok && le_z a b)
  above e f = e ∙ sym (and_false ok (le_z a b) (omega zarith))

  pub below : next ≡ ok → lt_z b a ≡ false → next ≡ (ok && le_z a b)
  below e f = e ∙ sym (and_true ok (le_z a b) (omega zarith))

-- ---- two states are the same exactly if their pairs are equal
-- of one pair each
turned_back : (a b : ℤ) → neg_ℤ a ≡ neg_ℤ b → a ≡ b
turned_back a b e = sym (neg_neg a) ∙ ap neg_ℤ e ∙ neg_neg b

pairs_same : (s u : List Pair) → map pair_of s ≡ map pair_of u → s ≡ u
pairs_same [] [] e = refl
pairs_same [] (q ∷ u) e = absurd (cc)
pairs_same (p ∷ s) [] e = absurd (cc)
pairs_same (p ∷ s) (q ∷ u) e =
    let first : pair_of p ≡ pair_of q = cc in
    let rest : map pair_of s ≡ map pair_of u = cc in
    let low : p.lo ≡ q.lo = ap (λ (x : paper.Pair). x.0) first in
    let high = turned_back p.hi q.hi (ap (λ (x : paper.Pair). x.1) first) in
    let here : p ≡ q = (λ i. record { lo = low i; hi = high i }) in
    λ i. here i ∷ pairs_same s u rest i

pub same_pairs : (s u : List Pair) (r : Bool) → Decides r (s ≡ u) → r ≡ paper.eq_state (map pair_of s) (map pair_of u)
same_pairs s u true d = sym (eq_state_yes (map pair_of s) (map pair_of u) (ap (map pair_of) (d.0 refl)))
same_pairs s u false d = sym (no_true (paper.eq_state (map pair_of s) (map pair_of u)) (λ e. true≢false (sym (d.1 (pairs_same s u (eq_state→ (map pair_of s) (map pair_of u) e))))))

-- ---- a place of a state
pub inside_at : (b : ℕ) (l : List Pair) (k : ℕ) → Inside b (map pair_of l) → Within b (get_or l k zero_pair).lo × Within b (get_or l k zero_pair).hi
inside_at b [] k h = (record { size = omega arith }, record { size = omega arith })
inside_at b (p ∷ l) zero h = (h.0.0, record { size = omega (arith, h.0.1.size, neg_size p.hi) })
inside_at b (p ∷ l) (suc k) h = inside_at b l k h.1

-- ---- a turn of the loop of differences
pub less_more : (s u t : List Pair) (k : ℕ) → length s ≡ 8 → length u ≡ 8 → k < 8 → Inside 10000000 (map pair_of s) → Inside 10000000 (map pair_of u) → JoinedTo lessen s (map pair_of u) k t
    → JoinedTo lessen s (map pair_of u) (k + 1) (set t k (record { lo = back (back (get_or s k zero_pair).lo -ℤ back (get_or u k zero_pair).lo); hi = back (back (get_or s k zero_pair).hi -ℤ back (get_or u k zero_pair).hi) }))
less_more s u t k long wide h i j e =
    let p = get_or s k zero_pair in
    let q = get_or u k zero_pair in
    let f = inside_at 10000000 s k i in
    let g = inside_at 10000000 u k j in
    pair_more lessen s u long wide t k (record { lo = back (back p.lo -ℤ back q.lo); hi = back (back p.hi -ℤ back q.hi) }) h e
    (rw (dif_back f.0 g.0, dif_back f.1 g.1) (ap (λ (z : ℤ). (p.lo -ℤ q.lo, z)) (neg_sum p.hi (neg_ℤ q.hi))))

-- ---- two pairs merged
-- the least with its sign turned is the greatest of both with their signs turned
neg_min : (a b : ℤ) → neg_ℤ (min_z a b) ≡ max_z (neg_ℤ a) (neg_ℤ b)
neg_min a b =
    let e : neg_ℤ (max_z (neg_ℤ a) (neg_ℤ b)) ≡ min_z a b = neg_max (neg_ℤ a) (neg_ℤ b) ∙ rw (neg_neg a, neg_neg b) in
    ap neg_ℤ (sym e) ∙ neg_neg (max_z (neg_ℤ a) (neg_ℤ b))

-- as std says it
pub least_is : (a b : ℤ) → int_min a b ≡ min_z a b
least_is a b = go (lt_z b a) (le_z a b) refl refl
  where
    go : (s t : Bool) → lt_z b a ≡ s → le_z a b ≡ t → cond s b a ≡ cond t a b
    go true true e f = absurd (omega zarith)
    go true false e f = refl
    go false true e f = refl
    go false false e f = absurd (omega zarith)

-- as code computes them
module _ (p q : Pair) (pl : SFits w32 p.lo) (ph : SFits w32 p.hi) (ql : SFits w32 q.lo) (qh : SFits w32 q.hi) where
  pub merged_back : (l h : ℤ) → mag l < 2 ^ 31 → mag h < 2 ^ 31 → l ≡ min_z (back p.lo) (back q.lo) → h ≡ min_z (back p.hi) (back q.hi)
      → pair_of (record { lo = back l; hi = back h }) ≡ paper.merged (pair_of p) (pair_of q)
  merged_back l h i j e f =
      rw (told l i, told h j, e, f, to_z-of_z pl, to_z-of_z ph, to_z-of_z ql, to_z-of_z qh) (ap (λ (z : ℤ). (min_z p.lo q.lo, z)) (neg_min p.hi q.hi))
