-- Why does the relaxed diagram lose no lawful plan? Reach, the test of an arc, merging, the place of a state.
-- Each fact stands over the share, for both kinds of rule, and over the rank.
use mathlib.Core.Path.{◌≡◌, refl, sym}
use mathlib.Core.List.{List, [], ◌∷◌, ◌++◌, map}
use mathlib.Core.Bool.{Bool, true, false, ◌&&◌, cond, true≢false}
use mathlib.Core.Option.{Option, none, some}
use Prim.Native.Nat.{ℕ, zero, suc, min, ◌+◌, ◌-◌, ◌<◌}
use lib.Dec.{ltb, leb}
use lib.ListN.{length, get_or, take, drop, length-take, length-drop, length-append, get_or-append}
use lib.Seq.{get_or-take, get_or-drop, get_or-append-add}
use native.Mathlib.Decide.{dec_lt}
use borrow.Author.Tests.{ltb-true, leb-true, leb-false}
use native.Mathlib.Omega.{arith}
use native.Mathlib.Nat.{zero-add}
use lib.IntN.{ℤ, pos, ◌+ℤ◌}
use lib.Signed.{le_z, ◌≤ℤ◌}
use Rattle.laws.specs.Z.{zarith, sum, assoc, min_z, min_le, le_max, eq_z, eq_z→, eq_z_refl}
use Rattle.laws.specs.Lists.{every, place, flat}
use Rattle.laws.proofs.Lists.{and_l, and_r, and_both, In, here, there, in_keep, in_from}
use Rattle.meaning.specs.Plan.{Rule, Campaign, bit, total, keeps_rule, allows, allowed, steps_of}
use Rattle.meaning.specs.Diagram.{Pair, State, Node, merged, merged_state, eq_state, child, span, reach, reaches, low_fits, high_fits, may_keep, may_keep_all, has, arrive, distinct, placed, ranked, states, relaxed, merged_node, merged_all, shared, nodes_of, starts}

-- ---- a pair around another: its low is not above, its high not below
pub record Around (q r : Pair) : Type 0 where
  pub low : q.0 ≤ℤ r.0
  pub high : r.1 ≤ℤ q.1

around_refl : (q : Pair) → Around q q
around_refl q = record { low = omega zarith; high = omega zarith }

around_trans : {q r s : Pair} → Around q r → Around r s → Around q s
around_trans h k = record { low = omega (zarith, h.low, k.low); high = omega (zarith, h.high, k.high) }

merged_around : (q r : Pair) → Around (merged q r) q × Around (merged q r) r
merged_around q r =
    let lo = min_le q.0 r.0 in
    let hi = le_max q.1 r.1 in
    (record { low = omega (zarith, lo); high = omega (zarith, hi) }, record { low = omega (zarith, lo); high = omega (zarith, hi) })

-- ---- the reach is around the total of every allowed rest of a plan
pub in_steps : (k s v : ℕ) → allows k s v ≡ true → In v (steps_of k s)
in_steps k s v e =
    let h = ltb-true v k (and_l (ltb v k) (bit s v) e) in
    in_keep (bit s) (and_r (ltb v k) (bit s v) e) (rw zero-add at (in_from 0 k v h))

span_around : (f : ℕ → ℤ) {v : ℕ} {l : List ℕ} → In v l → Around (span (map f l)) (f v, f v)
span_around f {v} (here {l = []}) = around_refl (f v, f v)
span_around f {v} (here {l = u ∷ l}) = (merged_around (f v, f v) (span (f u ∷ map f l))).0
span_around f (there {l = []} h) = elim h [ ]
span_around f (there {u = t} {l = u ∷ l} h) = around_trans (merged_around (f t, f t) (span (f u ∷ map f l))).1 (span_around f h)

pub reach_around : (k : ℕ) (r : Rule) (i : ℕ) (ss p : List ℕ) → allowed k ss p ≡ true → Around (reach k r i ss) (total r i p, total r i p)
reach_around k r i [] [] e = around_refl (pos 0, pos 0)
reach_around k r i [] (v ∷ p) e = absurd (true≢false (sym e))
reach_around k r i (s ∷ ss) [] e = absurd (true≢false (sym e))
reach_around k r i (s ∷ ss) (v ∷ p) e =
    let here = span (map (r.share i) (steps_of k s)) in
    let rest = reach k r (suc i) ss in
    let now = span_around (r.share i) (in_steps k s v (and_l (allows k s v) (allowed k ss p) e)) in
    let later = reach_around k r (suc i) ss p (and_r (allows k s v) (allowed k ss p) e) in
    let adds = sum (r.share i v) (total r (suc i) p) in
    record { low = omega (zarith, adds, sum here.0 rest.0, now.low, later.low); high = omega (zarith, adds, sum here.1 rest.1, now.high, later.high) }

-- ---- a wider state: around, at the places of the narrower
abbrev pub Wider : State → State → Type 0
Wider [] [] = Unit {0}
Wider [] (q ∷ t) = ⊥
Wider (n ∷ u) [] = Unit {0}
Wider (n ∷ u) (q ∷ t) = Around n q × Wider u t

wider_nil : (t : State) → Wider t []
wider_nil [] = tt
wider_nil (q ∷ t) = tt

pub wider_refl : (t : State) → Wider t t
wider_refl [] = tt
wider_refl (q ∷ t) = (around_refl q, wider_refl t)

pub wider_trans : (a b c : State) → Wider a b → Wider b c → Wider a c
wider_trans a b [] h k = wider_nil a
wider_trans [] [] (z ∷ c) h k = absurd k
wider_trans [] (y ∷ b) (z ∷ c) h k = absurd h
wider_trans (x ∷ a) [] (z ∷ c) h k = absurd k
wider_trans (x ∷ a) (y ∷ b) (z ∷ c) h k = (around_trans h.0 k.0, wider_trans a b c h.1 k.1)

pub merged_wider : (a b : State) → Wider (merged_state a b) a × Wider (merged_state a b) b
merged_wider [] b = (wider_nil b, wider_refl b)
merged_wider (x ∷ a) [] = (wider_refl (x ∷ a), tt)
merged_wider (x ∷ a) (y ∷ b) =
    let h = merged_around x y in
    let k = merged_wider a b in
    ((h.0, k.0), (h.1, k.1))

add_around : {q r x y : Pair} → Around q x → Around r y → Around (q.0 +ℤ r.0, q.1 +ℤ r.1) (x.0 +ℤ y.0, x.1 +ℤ y.1)
add_around {q} {r} {x} {y} h k = record {
  low = omega (zarith, sum q.0 r.0, sum x.0 y.0, h.low, k.low);
  high = omega (zarith, sum q.1 r.1, sum x.1 y.1, h.high, k.high);
}

pub child_wider : (rs : List Rule) (i v : ℕ) (u t : State) → Wider u t → Wider (child rs i v u) (child rs i v t)
child_wider [] i v u t w = tt
child_wider (r ∷ rs) i v u [] w = wider_nil (child (r ∷ rs) i v u)
child_wider (r ∷ rs) i v [] (q ∷ t) w = absurd w
child_wider (r ∷ rs) i v (n ∷ u) (q ∷ t) w = let z = r.share i v in (add_around w.0 (around_refl (z, z)), child_wider rs i v u t w.1)

-- ---- what the rest p of a plan, from slot i on, adds to each rule's total, and the reach around it
abbrev pub totals : List Rule → ℕ → List ℕ → State
totals rs i p = map (λ r. (total r i p, total r i p)) rs

pub reaches_wider : (q : Campaign) (i : ℕ) (ss p : List ℕ) → allowed q.steps ss p ≡ true → Wider (reaches q i ss) (totals q.rules i p)
reaches_wider q i ss p e = go q.rules
  where
    go : (rs : List Rule) → Wider (map (λ r. reach q.steps r i ss) rs) (totals rs i p)
    go [] = tt
    go (r ∷ rs) = (reach_around q.steps r i ss p e, go rs)

-- ---- a state at layer i under which the rest p may still be lawful
abbrev pub Fits : List Rule → ℕ → State → List ℕ → Type 0
Fits [] i t p = Unit {0}
Fits (r ∷ rs) i [] p = ⊥
Fits (r ∷ rs) i (q ∷ t) p = ((q.0 +ℤ total r i p) ≤ℤ r.ub) × (r.lb ≤ℤ (q.1 +ℤ total r i p)) × Fits rs i t p

-- what fits the child with the rest fits its parent with the step before it, and the other way
pub child_fits : (rs : List Rule) (i v : ℕ) (t : State) (p : List ℕ) → Fits rs (suc i) (child rs i v t) p ≡ Fits rs i t (v ∷ p)
child_fits [] i v t p = refl
child_fits (r ∷ rs) i v [] p = refl
child_fits (r ∷ rs) i v (q ∷ t) p =
    let y = r.share i v in
    let z = total r (suc i) p in
    rw (assoc q.0 y z, assoc q.1 y z, child_fits rs i v t p)

pub wider_fits : (rs : List Rule) (i : ℕ) (u t : State) (p : List ℕ) → Wider u t → Fits rs i t p → Fits rs i u p
wider_fits [] i u t p w h = tt
wider_fits (r ∷ rs) i u [] p w h = absurd h
wider_fits (r ∷ rs) i [] (q ∷ t) p w h = absurd w
wider_fits (r ∷ rs) i (n ∷ u) (q ∷ t) p w h =
    let z = total r i p in (
      omega (zarith, w.0.low, h.0, sum n.0 z, sum q.0 z),
      omega (zarith, w.0.high, h.1, sum n.1 z, sum q.1 z),
      wider_fits rs i u t p w.1 h.2,
    )

-- the test of an arc passes what fits, where the numbers ahead are around the rest
pub may_keep_lem : (rs : List Rule) (i : ℕ) (t es : State) (p : List ℕ) → Wider es (totals rs i p) → Fits rs i t p → may_keep_all rs t es ≡ true
may_keep_lem [] i t es p w h = refl
may_keep_lem (r ∷ rs) i [] es p w h = absurd h
may_keep_lem (r ∷ rs) i (q ∷ t) [] p w h = absurd w
may_keep_lem (r ∷ rs) i (q ∷ t) (e ∷ es) p w h =
    let z = total r i p in
    let low : low_fits r q e ≡ true = omega (zarith, h.0, sum q.0 e.0, sum q.0 z, w.0.low) in
    let high : high_fits r q e ≡ true = omega (zarith, h.1, sum q.1 e.1, sum q.1 z, w.0.high) in
    and_both (may_keep r q e) (may_keep_all rs t es) (and_both (low_fits r q e) (high_fits r q e) low high) (may_keep_lem rs i t es p w.1 h.2)

-- what keeps the rules fits the source
pub source_fits : (rs : List Rule) (p : List ℕ) → every (keeps_rule p) rs ≡ true → Fits rs 0 (starts rs) p
source_fits [] p e = tt
source_fits (r ∷ rs) p e =
    let z = r.start +ℤ total r 0 p in
    let now = and_l (keeps_rule p r) (every (keeps_rule p) rs) e in
    let lo = and_l (le_z r.lb z) (le_z z r.ub) now in
    let hi = and_r (le_z r.lb z) (le_z z r.ub) now in
    (omega zarith, omega zarith, source_fits rs p (and_r (keeps_rule p r) (every (keeps_rule p) rs) e))

-- ---- merging: the node that stands for a state is wider than that state
-- the node at a place that has none
abbrev pub no_node : Node
no_node = ([], pos 0)

all_wider : (n : Node) (ns : List Node) → Wider (merged_all n ns).0 n.0
all_wider n [] = wider_refl n.0
all_wider n (m ∷ ns) =
    wider_trans (merged_all (merged_node n m) ns).0 (merged_node n m).0 n.0 (all_wider (merged_node n m) ns) (merged_wider n.0 m.0).0

all_wider_at : (n : Node) (ns : List Node) (j : ℕ) → j < length ns → Wider (merged_all n ns).0 (get_or ns j no_node).0
all_wider_at n [] j h = absurd (omega arith)
all_wider_at n (m ∷ ns) zero h =
    wider_trans (merged_all (merged_node n m) ns).0 (merged_node n m).0 m.0 (all_wider (merged_node n m) ns) (merged_wider n.0 m.0).1
all_wider_at n (m ∷ ns) (suc j) h = all_wider_at (merged_node n m) ns j (omega arith)

-- node W is there, and wider than each that shares it
shared_wider : (ns : List Node) (j : ℕ) → j < length ns → (length (shared ns) ≡ 1) × Wider (get_or (shared ns) 0 no_node).0 (get_or ns j no_node).0
shared_wider [] j h = absurd (omega arith)
shared_wider (n ∷ ns) zero h = (refl, all_wider n ns)
shared_wider (n ∷ ns) (suc j) h = (refl, all_wider_at n ns j (omega arith))

-- the node that stands for the state at place j of a layer is there, and wider than that state
pub node_wider : (w : ℕ) (ts : List Node) (j : ℕ) → 0 < w → j < length ts
    → (min j (w - 1) < length (nodes_of relaxed w ts)) × Wider (get_or (nodes_of relaxed w ts) (min j (w - 1)) no_node).0 (get_or ts j no_node).0
node_wider w ts j hw h = go (leb (length ts) w) refl
  where
    go : (t : Bool) → leb (length ts) w ≡ t
        → (min j (w - 1) < length (cond t ts (take (w - 1) ts ++ shared (drop (w - 1) ts)))) × Wider (get_or (cond t ts (take (w - 1) ts ++ shared (drop (w - 1) ts))) (min j (w - 1)) no_node).0 (get_or ts j no_node).0
    go true e =
        let few = leb-true (length ts) w e in
        let same : min j (w - 1) ≡ j = omega arith in
        rw same (h, wider_refl (get_or ts j no_node).0)
    go false e =
        let head = take (w - 1) ts in
        let rest = drop (w - 1) ts in
        let many = leb-false (length ts) w e in
        let one = (shared_wider rest 0 (simp length-drop (omega arith))).0 in (
          simp (length-append, length-take) (omega (arith, one)),
          elim (dec_lt j (w - 1)) [
            | yes a ↦
                let same : min j (w - 1) ≡ j = omega arith in
                let f : j < length head = simp length-take (omega arith) in
                rw (same, get_or-append head (shared rest) no_node j f, get_or-take (w - 1) ts j no_node a) (wider_refl (get_or ts j no_node).0)
            | no f ↦
                let last : min j (w - 1) ≡ length head + 0 = simp length-take (omega arith) in
                let again : w - 1 + (j - (w - 1)) ≡ j = omega arith in
                let wide = (shared_wider rest (j - (w - 1)) (simp length-drop (omega arith))).1 in
                rw (last, get_or-append-add head (shared rest) 0 no_node) (rw (get_or-drop (w - 1) ts (j - (w - 1)) no_node, again) at wide)
          ],
        )

-- ---- the place of a state among the states of a layer
pub eq_state→ : (a b : State) → eq_state a b ≡ true → a ≡ b
eq_state→ [] [] e = refl
eq_state→ [] (y ∷ b) e = absurd (true≢false (sym e))
eq_state→ (x ∷ a) [] e = absurd (true≢false (sym e))
eq_state→ (x ∷ a) (y ∷ b) e =
    let pair = eq_z x.0 y.0 && eq_z x.1 y.1 in
    let f = and_l pair (eq_state a b) e in
    let lo = eq_z→ x.0 y.0 (and_l (eq_z x.0 y.0) (eq_z x.1 y.1) f) in
    let hi = eq_z→ x.1 y.1 (and_r (eq_z x.0 y.0) (eq_z x.1 y.1) f) in
    let rest = eq_state→ a b (and_r pair (eq_state a b) e) in
    λ d. (lo d, hi d) ∷ rest d

pub eq_state_refl : (a : State) → eq_state a a ≡ true
eq_state_refl [] = refl
eq_state_refl (x ∷ a) = rw (eq_z_refl x.0, eq_z_refl x.1) (eq_state_refl a)

-- a node of the list has the state
data Has (t : State) : List Node → Type 0 where
  first : {z : ℤ} {ns : List Node} → Has t ((t, z) ∷ ns)
  later : {n : Node} {ns : List Node} → Has t ns → Has t (n ∷ ns)

pub record Found (t : State) (ns : List Node) : Type 0 where
  pub below : place (has t) ns < length ns
  pub is : (get_or ns (place (has t) ns) no_node).0 ≡ t

found : {t : State} {ns : List Node} → Has t ns → Found t ns
found {t} (first {ns = ns}) = record { below = rw (eq_state_refl t) (omega arith); is = rw (eq_state_refl t) }
found {t} (later {n = n} {ns = ns} h) = go (eq_state t n.0) refl (found h)
  where
    go : (b : Bool) → eq_state t n.0 ≡ b → Found t ns → Found t (n ∷ ns)
    go true e k = record { below = rw e (omega arith); is = rw e (sym (eq_state→ t n.0 e)) }
    go false e k = record { below = rw e (omega (arith, k.below)); is = rw e k.is }

arrive_has : (c : Node) (ns : List Node) → Has c.0 (arrive c ns)
arrive_has c [] = first {z = c.1}
arrive_has c (n ∷ ns) = go (eq_state c.0 n.0) refl (arrive_has c ns)
  where
    go : (b : Bool) → eq_state c.0 n.0 ≡ b → Has c.0 (arrive c ns) → Has c.0 (cond b ((n.0, min_z n.1 c.1) ∷ ns) (n ∷ arrive c ns))
    go true e k = rw (eq_state→ c.0 n.0 e) first
    go false e k = later k

arrive_kept : {t : State} (c : Node) {ns : List Node} → Has t ns → Has t (arrive c ns)
arrive_kept {t} c (first {z = z} {ns = ns}) = go (eq_state c.0 t)
  where
    go : (b : Bool) → Has t (cond b ((t, min_z z c.1) ∷ ns) ((t, z) ∷ arrive c ns))
    go true = first
    go false = first
arrive_kept {t} c (later {n = n} {ns = ns} h) = go (eq_state c.0 n.0) h (arrive_kept c h)
  where
    go : (b : Bool) → Has t ns → Has t (arrive c ns) → Has t (cond b ((n.0, min_z n.1 c.1) ∷ ns) (n ∷ arrive c ns))
    go true k l = later k
    go false k l = later l

distinct_kept : {t : State} {seen : List Node} (os : List (Option Node)) → Has t seen → Has t (distinct seen os)
distinct_kept [] h = h
distinct_kept {t = t} {seen = seen} (none ∷ os) h = distinct_kept {t = t} {seen = seen} os h
distinct_kept {t = t} {seen = seen} (some c ∷ os) h = distinct_kept {t = t} {seen = arrive c seen} os (arrive_kept c h)

distinct_has : (c : Node) (seen : List Node) {os : List (Option Node)} → In (some c) os → Has c.0 (distinct seen os)
distinct_has c seen (here {l = os}) = distinct_kept os (arrive_has c seen)
distinct_has c seen (there {u = none} h) = distinct_has c seen h
distinct_has c seen (there {u = some d} h) = distinct_has c (arrive d seen) h

-- whatever the ranks, standing by rank loses no state
placed_has : (c : Node) (ns : List Node) → Has c.0 (placed c ns)
placed_has c [] = first {z = c.1}
placed_has c (n ∷ ns) = go (le_z c.1 n.1) (placed_has c ns)
  where
    go : (b : Bool) → Has c.0 (placed c ns) → Has c.0 (cond b (c ∷ n ∷ ns) (n ∷ placed c ns))
    go true k = first {z = c.1}
    go false k = later k

placed_kept : {t : State} (c : Node) {ns : List Node} → Has t ns → Has t (placed c ns)
placed_kept {t} c (first {z = z} {ns = ns}) = go (le_z c.1 z)
  where
    go : (b : Bool) → Has t (cond b (c ∷ (t, z) ∷ ns) ((t, z) ∷ placed c ns))
    go true = later first
    go false = first
placed_kept {t} c (later {n = n} {ns = ns} h) = go (le_z c.1 n.1) h (placed_kept c h)
  where
    go : (b : Bool) → Has t ns → Has t (placed c ns) → Has t (cond b (c ∷ n ∷ ns) (n ∷ placed c ns))
    go true k l = later (later k)
    go false k l = later l

ranked_has : {t : State} {ns : List Node} → Has t ns → Has t (ranked ns)
ranked_has {t} (first {z = z} {ns = ns}) = placed_has (t, z) (ranked ns)
ranked_has (later {n = n} h) = placed_kept n (ranked_has h)

-- every arrival finds its state among the states of its layer
pub arrival_found : (c : Node) (os : List (List (Option Node))) → In (some c) (flat os) → Found c.0 (states os)
arrival_found c os h = found (ranked_has (distinct_has c [] h))
