-- Why is no restricted path unlawful?
-- Each node has the very state of the child that its arc stands for, and the last slot's test has reach 0.
use mathlib.Core.Path.{◌≡◌, refl, sym, ap}
use mathlib.Core.List.{List, [], ◌∷◌, map}
use mathlib.Core.Bool.{Bool, true, false, true≢false}
use Prim.Native.Nat.{ℕ, suc, ◌<◌}
use native.Mathlib.Omega.{arith}
use lib.Dec.{ltb}
use lib.ListN.{length, get_or, take, length-map}
use lib.Seq.{get_or-take}
use borrow.Author.Tests.{ltb-true}
use lib.IntN.{pos, ◌+ℤ◌}
use lib.Signed.{le_z}
use Rattle.laws.specs.Z.{zarith, sum}
use Rattle.laws.specs.Lists.{every, place}
use Rattle.laws.proofs.Lists.{and_l, and_r, and_both}
use Rattle.meaning.specs.Plan.{Rule, Campaign, total, keeps_rule, allows, allowed, lawful, slots}
use Rattle.meaning.specs.Diagram.{State, Node, Rank, has, child, reach, may_keep, may_keep_all, arrivals, states, restricted, place_byte, arc_byte, sink_byte, first_appearance, layers, starts, source, built}
use Rattle.meaning.specs.Filter.{on_path, restricted_arcs}
use Rattle.meaning.specs.Bound.{walks, is_path}
use Rattle.meaning.proofs.Sound.{Fits, child_fits, no_node, Found}
use Rattle.meaning.proofs.Walks.{next, fewer_walks}
use Rattle.meaning.proofs.Layers.{child_found, arc_at}
use Rattle.meaning.proofs.Drops.{drops_fewer}

pub child_length : (rs : List Rule) (i v : ℕ) (t : State) → length t ≡ length rs → length (child rs i v t) ≡ length rs
child_length [] i v t e = refl
child_length (r ∷ rs) i v [] e = absurd (omega arith)
child_length (r ∷ rs) i v (x ∷ t) e = ap suc (child_length rs i v t (omega arith))

-- at the sink nothing can be added: the test is the rule
sink_fits : (k : ℕ) (rs : List Rule) (i : ℕ) (t : State) → length t ≡ length rs → may_keep_all rs t (map (λ r. reach k r i []) rs) ≡ true → Fits rs i t []
sink_fits k [] i t l e = tt
sink_fits k (r ∷ rs) i [] l e = absurd (omega arith)
sink_fits k (r ∷ rs) i (x ∷ t) l e =
    let now = may_keep r x (pos 0, pos 0) in
    let rest = may_keep_all rs t (map (λ r. reach k r i []) rs) in
    let lo = le_z (x.0 +ℤ pos 0) r.ub in
    let hi = le_z r.lb (x.1 +ℤ pos 0) in
    let a = and_l lo hi (and_l now rest e) in
    let b = and_r lo hi (and_l now rest e) in
    (omega (zarith, sum x.0 (pos 0)), omega (zarith, sum x.1 (pos 0)), sink_fits k rs i t (omega arith) (and_r now rest e))

-- what fits the source keeps the rules
fits_keeps : (rs : List Rule) (p : List ℕ) → Fits rs 0 (starts rs) p → every (keeps_rule p) rs ≡ true
fits_keeps [] p h = refl
fits_keeps (r ∷ rs) p h =
    let z = r.start +ℤ total r 0 p in
    let lo : le_z r.lb z ≡ true = omega (zarith, h.1) in
    let hi : le_z z r.ub ≡ true = omega (zarith, h.0) in
    and_both (keeps_rule p r) (every (keeps_rule p) rs) (and_both (le_z r.lb z) (le_z z r.ub) lo hi) (fits_keeps rs p h.2)

module _ (o : Rank) (q : Campaign) where
  module _ (w : ℕ) where
    -- the byte of a kept state is its place, and the node there has that state
    kept_at : (c : State) (ts : List Node) (j : ℕ) → Found c ts → place_byte restricted w (place (has c) ts) ≡ suc j → (get_or (take w ts) j no_node).0 ≡ c
    kept_at c ts j h e = go (ltb (place (has c) ts) w) refl
      where
        go : (t : Bool) → ltb (place (has c) ts) w ≡ t → (get_or (take w ts) j no_node).0 ≡ c
        go true f =
            let is : place_byte restricted w (place (has c) ts) ≡ suc (place (has c) ts) = rw f refl in
            let same : j ≡ place (has c) ts = omega arith in
            rw (same, get_or-take w ts (place (has c) ts) no_node (ltb-true (place (has c) ts) w f)) h.is
        go false f = let is : place_byte restricted w (place (has c) ts) ≡ 0 = rw f refl in absurd (omega arith)

    -- a path from the node at place k of layer i is allowed, and fits the node's state
    layers_fit : (s : ℕ) (ss : List ℕ) (i : ℕ) (ns : List Node) (k : ℕ) (p : List ℕ) → length (get_or ns k no_node).0 ≡ length q.rules
        → walks (map (λ l. l.arcs) (layers restricted o q w i ns (s ∷ ss))) k p ≡ true → (allowed q.steps (s ∷ ss) p ≡ true) × Fits q.rules i (get_or ns k no_node).0 p
    layers_fit s [] i ns k [] l e = absurd (true≢false (sym e))
    layers_fit s [] i ns k (v ∷ []) l e =
        let t = (get_or ns k no_node).0 in
        let x = next (λ j. walks [] j []) (get_or (get_or (map (map sink_byte) (map (arrivals o q i s []) ns)) k []) v 0) e in
        let a = (arc_at o q i s [] sink_byte refl ns k v x.to x.byte).1 in (
          and_both (allows q.steps s v) true a.allow refl,
          rw (← child_fits q.rules i v t []) (sink_fits q.steps q.rules (suc i) (child q.rules i v t) (child_length q.rules i v t l) a.stands),
        )
    layers_fit s [] i ns k (v ∷ u ∷ p) l e =
        absurd (true≢false (sym (next (λ j. walks [] j (u ∷ p)) (get_or (get_or (map (map sink_byte) (map (arrivals o q i s []) ns)) k []) v 0) e).on))
    layers_fit s (s' ∷ ss) i ns k [] l e = absurd (true≢false (sym e))
    layers_fit s (s' ∷ ss) i ns k (v ∷ p) l e =
        let t = (get_or ns k no_node).0 in
        let c = child q.rules i v t in
        let os = map (arrivals o q i s (s' ∷ ss)) ns in
        let ts = states os in
        let x = next (λ j. walks (map (λ l. l.arcs) (layers restricted o q w (suc i) (take w ts) (s' ∷ ss))) j p) (get_or (get_or (map (map (arc_byte restricted w ts)) os) k []) v 0) e in
        let both = arc_at o q i s (s' ∷ ss) (arc_byte restricted w ts) refl ns k v x.to x.byte in
        let a = both.1 in
        let at = kept_at c ts x.to (child_found o q i s (s' ∷ ss) ns k v both.0 a.allow a.stands) a.lands in
        let rest = layers_fit s' ss (suc i) (take w ts) x.to p (rw at (child_length q.rules i v t l)) x.on in
        (and_both (allows q.steps s v) (allowed q.steps (s' ∷ ss) p) a.allow rest.0, rw (← child_fits q.rules i v t p) (rw at at rest.1))

    -- from the source, by any order of the states
    pub layers_obey : (p : List ℕ) → 0 < slots q → is_path (map (λ l. l.arcs) (layers restricted o q w 0 (source q) q.sets)) p ≡ true → lawful q p ≡ true
    layers_obey p h e =
        let both = go q.sets h e in
        and_both (allowed q.steps q.sets p) (every (keeps_rule p) q.rules) both.0 (fits_keeps q.rules p both.1)
      where
        go : (ss : List ℕ) → 0 < length ss → is_path (map (λ l. l.arcs) (layers restricted o q w 0 (source q) ss)) p ≡ true
            → (allowed q.steps ss p ≡ true) × Fits q.rules 0 (starts q.rules) p
        go [] h e = absurd (omega arith)
        go (s ∷ ss) h e = layers_fit s ss 0 (source q) 0 p (length-map q.rules (λ r. (r.start, r.start))) e

-- a path of the built arcs is lawful
pub built_lawful : (q : Campaign) (w : ℕ) (p : List ℕ) → 0 < slots q → is_path (built restricted q w) p ≡ true → lawful q p ≡ true
built_lawful q w p h e = layers_obey first_appearance q w p h e

-- and so is a path of the finished ones
pub restricted_lawful : (q : Campaign) (w : ℕ) (p : List ℕ) → 0 < slots q → is_path (restricted_arcs q w) p ≡ true → lawful q p ≡ true
restricted_lawful q w p h e = built_lawful q w p h (fewer_walks (restricted_arcs q w) (built restricted q w) (drops_fewer on_path q (built restricted q w)) 0 p e)
