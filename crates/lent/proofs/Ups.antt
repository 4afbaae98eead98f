-- Do lanes raised arc by arc stand for a node's up numbers, and does the test of lanes drop the arcs that the test of numbers drops?
use mathlib.Core.Path.{◌≡◌, refl, sym, ◌∙◌, ap}
use mathlib.Core.List.{List, [], ◌∷◌, map}
use mathlib.Core.Bool.{Bool, true, false, ◌&&◌, cond}
use mathlib.Core.Option.{none, some}
use Prim.Native.Nat.{ℕ, zero, suc, ◌+◌, ◌*◌, ◌≤◌, ◌<◌}
use native.Mathlib.Omega.{arith}
use lib.ListN.{length, get_or, replicate, length-map}
use lib.IntN.{ℤ, pos, neg_ℤ, ◌+ℤ◌, ◌-ℤ◌}
use lib.Signed.{le_z}
use Rattle.laws.specs.Z.{zarith, sum, dif, parts, Within}
use Rattle.laws.proofs.Each.{Each, each_at, each_more}
use Rattle.meaning.specs.Plan.{Rule, Campaign}
use Rattle.meaning.specs.Diagram.{State, child, may_keep_all}
use Rattle.meaning.specs.Filter.{Numbers, meet, over, up_arc, up_node, each_step, Test, within, stays, test_arc}
use Rattle.meaning.proofs.Sizes.{larger}
use Rattle.meaning.proofs.Restricted.{child_length}
use Rattle.lent.specs.Scatter.{raised}
use Rattle.lent.specs.Lanes.{zipped, sums, leasts, at_most}
use Rattle.lent.specs.Passes.{Bytes, far, nowhere, raise, raise_node, test_byte, test_node}
use Rattle.lent.specs.Vec.{vec, arc_vec, slot_vec, row_vec, test_of, limit_vec}
use Rattle.lent.specs.Small.{Small, FitSome, Fit}
use Rattle.lent.proofs.Scatter.{meet_none, raised_up}
use Rattle.lent.proofs.Fit.{over_fit, meet_fit, up_arc_fit}
use Rattle.lent.proofs.Lanes.{length-zipped, zipped-block, at_most_no, at_most_size, at_most-block, neg_sum, neg_le}
use Rattle.lent.proofs.Vec.{length-vec, length_limit, length_lows, length_highs, some_within, row_at, slot_at, far_some, sums_over, leasts_meet}

-- ---- up: slot i, ahead of h slots
module _ (q : Campaign) (s : Small q) (i h k : ℕ) (more : h < k) (few : k ≤ 24) (us : List Numbers) (f : Each (Fit q h) us) where
  raises : (v b : ℕ) → v < 8 → b ≤ 16 → (x : Numbers) → Fit q k x → raise (slot_vec q i) (row_vec us) v b (vec x) ≡ vec (meet x (up_arc q i us v b))
  raises v zero w c x g = ap vec (sym (meet_none x))
  raises v (suc j) w c x g = rw (row_at us j (omega arith), slot_at q s i v w) (go (get_or us j none) (each_at (Fit q h) us j none tt f))
    where
      go : (u : Numbers) → Fit q h u → cond (far (vec u)) (vec x) (leasts (vec x) (sums (vec u) (arc_vec q i v))) ≡ vec (meet x (over q i v u))
      go none l = ap vec (sym (meet_none x))
      go (some a) l = rw (far_some q h (omega arith) a l, sums_over q h i v a l) (leasts_meet q k few x (over q i v (some a)) g (over_fit q s h k more i v w (some a) l))

  raises_node : (v : ℕ) (bs : List ℕ) → v + length bs ≤ 8 → Bytes bs → (x : Numbers) → Fit q k x → raise_node (slot_vec q i) (row_vec us) v bs (vec x) ≡ vec (raised q i us v bs x)
  raises_node v [] w c x g = refl
  raises_node v (b ∷ bs) w c x g =
      let y = up_arc q i us v b in
      rw (raises v b (omega arith) c.0 x g) (raises_node (suc v) bs (omega arith) c.1 (meet x y) (meet_fit q k x y g (up_arc_fit q s h k more i us f v b (omega arith))))

  pub node_raises : (bs : List ℕ) → length bs ≤ 8 → Bytes bs → raise_node (slot_vec q i) (row_vec us) 0 bs nowhere ≡ vec (up_node q i us 0 bs)
  node_raises bs w c = raises_node 0 bs (omega arith) c none tt ∙ ap vec (raised_up q i us bs)

-- ---- the room of a node by its numbers
abbrev pub room_vec : Bool → List ℤ → Numbers → List ℤ
room_vec free limit none = replicate 17 (neg_ℤ (pos 4000000))
room_vec free limit (some a) = cond free (replicate 17 (pos 4000000)) (zipped ◌-ℤ◌ limit (vec (some a)))

-- what the limit leaves is no less than what comes exactly if both together keep the limit
left_over : (l d u : List ℤ) → length d ≡ length l → length u ≡ length l → at_most u (zipped ◌-ℤ◌ l d) ≡ at_most (sums d u) l
left_over [] [] [] e f = refl
left_over [] [] (y ∷ u) e f = absurd (omega arith)
left_over [] (x ∷ d) u e f = absurd (omega arith)
left_over (z ∷ l) [] u e f = absurd (omega arith)
left_over (z ∷ l) (x ∷ d) [] e f = absurd (omega arith)
left_over (z ∷ l) (x ∷ d) (y ∷ u) e f = (λ j. one (le_z (x +ℤ y) z) refl j && left_over l d u (omega arith) (omega arith) j)
  where
    one : (t : Bool) → le_z (x +ℤ y) z ≡ t → le_z y (z -ℤ x) ≡ t
    one true g = omega (zarith, sum x y, dif z x)
    one false g = omega (zarith, sum x y, dif z x)

-- ---- where both are there: rule by rule, then the cost
swapped : (a b s : ℤ) → a +ℤ (b +ℤ s) ≡ (a +ℤ s) +ℤ b
swapped a b s = omega (zarith, sum b s, sum a (b +ℤ s), sum a s, sum (a +ℤ s) b)

turned : (a b s z : ℤ) → le_z (neg_ℤ a +ℤ neg_ℤ (b +ℤ s)) (neg_ℤ z) ≡ le_z z ((a +ℤ s) +ℤ b)
turned a b s z = rw (← neg_sum a (b +ℤ s), neg_le (a +ℤ (b +ℤ s)) z, swapped a b s)

crossed : (a b c d : Bool) → ((a && b) && (c && d)) ≡ ((a && c) && (b && d))
crossed true true c d = refl
crossed true false true d = refl
crossed true false false d = refl
crossed false b c d = refl

rules_test : (rs : List Rule) (i v : ℕ) (t u : State) → length t ≡ length rs → length u ≡ length rs
    → (at_most (sums (map (λ p. p.0) t) (map (λ p. p.0) (child rs i v u))) (map (λ r. r.ub) rs)
    && at_most (sums (map neg_ℤ (map (λ p. p.1) t)) (map neg_ℤ (map (λ p. p.1) (child rs i v u)))) (map neg_ℤ (map (λ r. r.lb) rs)))
    ≡ may_keep_all rs (child rs i v t) u
rules_test [] i v [] u e f = refl
rules_test [] i v (p ∷ t) u e f = absurd (omega arith)
rules_test (r ∷ rs) i v [] u e f = absurd (omega arith)
rules_test (r ∷ rs) i v (p ∷ t) [] e f = absurd (omega arith)
rules_test (r ∷ rs) i v (p ∷ t) (o ∷ u) e f =
    let z = r.share i v in
    let low : le_z (p.0 +ℤ (o.0 +ℤ z)) r.ub ≡ le_z ((p.0 +ℤ z) +ℤ o.0) r.ub = ap (λ (x : ℤ). le_z x r.ub) (swapped p.0 o.0 z) in
    let high = turned p.1 o.1 z r.lb in
    let rest = rules_test rs i v t u (omega arith) (omega arith) in
    crossed (le_z (p.0 +ℤ (o.0 +ℤ z)) r.ub) _ (le_z (neg_ℤ p.1 +ℤ neg_ℤ (o.1 +ℤ z)) (neg_ℤ r.lb)) _ ∙ (λ j. (low j && high j) && rest j)

-- slot i, behind h slots and ahead of k
module _ (q : Campaign) (s : Small q) (i h k : ℕ) (few : h + 1 + k ≤ 24) where
  both_test : (c : ℤ) (v : ℕ) (a u : State × ℤ) → FitSome q h a → FitSome q k u
      → at_most (sums (vec (some a)) (vec (over q i v (some u)))) (limit_vec c q) ≡ stays (within c) q (over q i v (some a)) (some u)
  both_test c v a u f g =
      let t = child q.rules i v u.0 in
      let price = q.price i v in
      let low = map (λ p. p.0) a.0 in
      let high = map neg_ℤ (map (λ p. p.1) a.0) in
      let up_low = map (λ p. p.0) t in
      let up_high = map neg_ℤ (map (λ p. p.1) t) in
      let ubs = map (λ (r : Rule). r.ub) q.rules in
      let lbs = map (λ (r : Rule). r.lb) q.rules in
      let few = s.rules in
      let long : length t ≡ length q.rules = child_length q.rules i v u.0 g.long in
      let lows : length low ≡ length q.rules = length_lows a.0 ∙ f.long in
      let highs : length high ≡ length q.rules = length_highs a.0 ∙ f.long in
      let up_lows : length low ≡ length up_low = lows ∙ sym (length_lows t ∙ long) in
      let up_highs : length high ≡ length up_high = highs ∙ sym (length_highs t ∙ long) in
      let all_lows : length (sums low up_low) ≡ length q.rules = length-zipped ◌+ℤ◌ low up_low up_lows ∙ lows in
      let all_highs : length (sums high up_high) ≡ length q.rules = length-zipped ◌+ℤ◌ high up_high up_highs ∙ highs in
      let cost : le_z (a.1 +ℤ (u.1 +ℤ price)) c ≡ le_z ((a.1 +ℤ price) +ℤ u.1) c = ap (λ (z : ℤ). le_z z c) (swapped a.1 u.1 price) in
      let rules = rules_test q.rules i v a.0 u.0 f.long g.long in
      ap (λ (l : List ℤ). at_most l (limit_vec c q)) (zipped-block ◌+ℤ◌ (pos 0) (pos 0) low up_low high up_high a.1 (u.1 +ℤ price) up_lows up_highs)
      ∙ at_most-block (pos 0) (pos 2000000) (sums low up_low) ubs (sums high up_high) (map neg_ℤ lbs) (a.1 +ℤ (u.1 +ℤ price)) c refl
      (all_lows ∙ sym (length-map q.rules (λ r. r.ub))) (omega arith) (all_highs ∙ sym (length-map lbs neg_ℤ ∙ length-map q.rules (λ r. r.lb))) (omega arith)
      ∙ (λ j. rules j && cost j)

  -- an arc to a child with numbers: those that come up over it are within one size of the rooms that no limit makes
  module _ (free : Bool) (c : ℤ) (v : ℕ) (w : v < 8) (u : State × ℤ) (g : FitSome q k u) where
    abbrev comes : List ℤ
    comes = vec (over q i v (some u))

    comes_within : Each (Within 2000000) comes
    comes_within =
        each_more (Within (70000 * suc k)) (Within 2000000) (λ z b. larger (omega arith) b) comes
        (some_within q (suc k) (child q.rules i v u.0, u.1 +ℤ q.price i v) (over_fit q s k (suc k) (omega arith) i v w (some u) g))

    comes_long : length comes ≡ 17
    comes_long = length-vec (over q i v (some u))

    room_test : (d : Numbers) → Fit q h d → at_most comes (room_vec free (limit_vec c q) d) ≡ stays (test_of free c) q (over q i v d) (some u)
    room_test none f =
        let last = each_at (Within 2000000) comes 16 (pos 0) (record { size = omega arith }) comes_within in
        at_most_no comes (replicate 17 (neg_ℤ (pos 4000000))) 16 (pos 0) (omega (arith, comes_long)) (omega arith) (omega (zarith, parts (get_or comes 16 (pos 0)), last.size))
    room_test (some a) f = go free
      where
        go : (t : Bool) → at_most comes (cond t (replicate 17 (pos 4000000)) (zipped ◌-ℤ◌ (limit_vec c q) (vec (some a)))) ≡ stays (test_of t c) q (over q i v (some a)) (some u)
        go true = rw comes_long at (at_most_size 4000000 comes (each_more (Within 2000000) (Within 4000000) (λ z b. larger (omega arith) b) comes comes_within))
        go false = left_over (limit_vec c q) (vec (some a)) comes (length-vec (some a) ∙ sym (length_limit c q)) (comes_long ∙ sym (length_limit c q)) ∙ both_test c v a u f g

  -- ---- the bytes that remain of a node's
  module _ (free : Bool) (c : ℤ) (us : List Numbers) (g : Each (Fit q k) us) (d : Numbers) (f : Fit q h d) where
    byte_tests : (v b : ℕ) → v < 8 → b ≤ 16 → test_byte (slot_vec q i) (row_vec us) (room_vec free (limit_vec c q) d) v b ≡ test_arc (test_of free c) q i us d v b
    byte_tests v zero w l = refl
    byte_tests v (suc j) w l = rw (row_at us j (omega arith), slot_at q s i v w) (go (get_or us j none) (each_at (Fit q k) us j none tt g))
      where
        no_child : (e : Test) (d : Numbers) → stays e q d none ≡ false
        no_child e none = refl
        no_child e (some a) = refl

        go : (u : Numbers) → Fit q k u
            → cond (far (vec u)) 0 (cond (at_most (sums (vec u) (arc_vec q i v)) (room_vec free (limit_vec c q) d)) (suc j) 0) ≡ cond (stays (test_of free c) q (over q i v d) u) (suc j) 0
        go none t = rw (no_child (test_of free c) (over q i v d)) refl
        go (some a) t = rw (far_some q k (omega arith) a t, sums_over q k i v a t, room_test free c v w a t d f)

    tests_node : (v : ℕ) (bs : List ℕ) → v + length bs ≤ 8 → Bytes bs → test_node (slot_vec q i) (row_vec us) (room_vec free (limit_vec c q) d) v bs ≡ each_step (test_arc (test_of free c) q i us d) v bs
    tests_node v [] w l = refl
    tests_node v (b ∷ bs) w l = rw (byte_tests v b (omega arith) l.0, tests_node (suc v) bs (omega arith) l.1)

    pub node_tests : (bs : List ℕ) → length bs ≤ 8 → Bytes bs → test_node (slot_vec q i) (row_vec us) (room_vec free (limit_vec c q) d) 0 bs ≡ each_step (test_arc (test_of free c) q i us d) 0 bs
    node_tests bs w l = tests_node 0 bs (omega arith) l
