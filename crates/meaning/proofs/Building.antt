-- How large do numbers get while a diagram is built? No larger than the start and the greatest sizes over the slots' steps together.
use mathlib.Core.Path.{◌≡◌, refl}
use mathlib.Core.List.{List, [], ◌∷◌, ◌++◌, map}
use mathlib.Core.Bool.{Bool, true, false, ◌&&◌, cond}
use mathlib.Core.Option.{Option, none, some}
use Prim.Native.Nat.{ℕ, suc, ◌-◌}
use native.Mathlib.Omega.{arith}
use lib.Dec.{leb}
use lib.ListN.{length, take, drop}
use lib.IntN.{ℤ}
use lib.Signed.{le_z}
use Rattle.laws.specs.Z.{min_z, Within}
use Rattle.laws.specs.Lists.{gather, flat, from}
use Rattle.laws.proofs.Lists.{and_l, In, here, there}
use Rattle.laws.proofs.Each.{Each, each_of, each_in, each_append, each_take, each_drop, each_flat, each_gather, each_map}
use Rattle.meaning.specs.Plan.{Rule, Campaign, allows, steps_of}
use Rattle.meaning.specs.Diagram.{State, merged_state, child, span, reach, reaches, may_keep_all, Node, Rank, arrival, arrivals, has, arrive, distinct, placed, ranked, states, Builder, relaxed, restricted, arc_byte, sink_byte, merged_node, merged_all, shared, nodes_of, Layer, layers, layers_of, first_appearance, source}
use Rattle.meaning.specs.Running.{ends, meeting_sums, layer_numbers, layers_numbers, build_numbers, greatest_size}
use Rattle.meaning.proofs.Sound.{in_steps}
use Rattle.meaning.proofs.Sizes.{larger, added, either, Sized, child_sized, merged_sized, left_less, right_less, ends_within, sums_within, counted, ahead, Bears, Room, grown, grown_step, grown_room, start_size, starts_sized}

-- ---- the steps of a set, and the greatest size over them
pub greatest_in : (f : ℕ → ℤ) {v : ℕ} {l : List ℕ} → In v l → Within (greatest_size f l) (f v)
greatest_in f here = record { size = omega arith }
greatest_in f (there h) = larger (omega arith) (greatest_in f h)

-- the bound of a slot: the greatest size of a share over its steps
abbrev pub greatest : Campaign → Rule → ℕ → ℕ → ℕ
greatest q r i s = greatest_size (r.share i) (steps_of q.steps s)

pub step_bears : (q : Campaign) (i s v : ℕ) → In v (steps_of q.steps s) → Bears q (greatest q) i s v
step_bears q i s v h = each_of (λ r. Within (greatest q r i s) (r.share i v)) (λ r. greatest_in (r.share i) h) (counted q)

-- ---- reach
-- its bound
abbrev reach_size : Campaign → ℕ → List ℕ → Rule → ℕ
reach_size q i ss r = ahead (greatest q) r i ss

span_within : (m : ℕ) (l : List ℤ) → Each (Within m) l → Within m (span l).0 × Within m (span l).1
span_within m [] h = (record { size = omega arith }, record { size = omega arith })
span_within m (z ∷ []) h = (h.0, h.0)
span_within m (z ∷ y ∷ ys) h =
    let rest = span_within m (y ∷ ys) h.1 in
    (either (le_z z (span (y ∷ ys)).0) h.0 rest.0, either (le_z z (span (y ∷ ys)).1) rest.1 h.0)

module _ (q : Campaign) where
  reach_within : (r : Rule) (i : ℕ) (ss : List ℕ) → Within (reach_size q i ss r) (reach q.steps r i ss).0 × Within (reach_size q i ss r) (reach q.steps r i ss).1
  reach_within r i [] = (record { size = omega arith }, record { size = omega arith })
  reach_within r i (s ∷ ss) =
      let g = greatest q r i s in
      let shares = each_map (λ v. In v (steps_of q.steps s)) (Within g) (r.share i) (λ v h. greatest_in (r.share i) h) (steps_of q.steps s) (each_in (λ v. In v (steps_of q.steps s)) (steps_of q.steps s) (λ v h. h)) in
      let here = span_within g (map (r.share i) (steps_of q.steps s)) shares in
      let rest = reach_within r (suc i) ss in
      (added (omega arith) here.0 rest.0, added (omega arith) here.1 rest.1)

  reaches_sized : (i : ℕ) (ss : List ℕ) (rs : List Rule) → Sized (reach_size q i ss) rs (map (λ r. reach q.steps r i ss) rs)
  reaches_sized i ss [] = tt
  reaches_sized i ss (r ∷ rs) = let both = reach_within r i ss in (both.0, both.1, reaches_sized i ss rs)

-- ---- what the children's states have, and merging keeps, the nodes of the next layer have
-- the child, if there is one
abbrev OfChild : (State → Type 0) → Option Node → Type 0
OfChild P none = Unit {0}
OfChild P (some c) = P c.0

module _ (P : State → Type 0) (join : (s t : State) → P s → P t → P (merged_state s t)) where
  abbrev OfNode : Node → Type 0
  OfNode n = P n.0

  arrive_has : (c : Node) (ns : List Node) → OfNode c → Each OfNode ns → Each OfNode (arrive c ns)
  arrive_has c [] h k = (h, tt)
  arrive_has c (n ∷ ns) h k = go (has c.0 n) (arrive_has c ns h k.1)
    where
      go : (t : Bool) → Each OfNode (arrive c ns) → Each OfNode (cond t ((n.0, min_z n.1 c.1) ∷ ns) (n ∷ arrive c ns))
      go true r = k
      go false r = (k.0, r)

  distinct_has : (seen : List Node) (os : List (Option Node)) → Each OfNode seen → Each (OfChild P) os → Each OfNode (distinct seen os)
  distinct_has seen [] h k = h
  distinct_has seen (none ∷ os) h k = distinct_has seen os h k.1
  distinct_has seen (some c ∷ os) h k = distinct_has (arrive c seen) os (arrive_has c seen k.0 h) k.1

  placed_has : (c : Node) (ns : List Node) → OfNode c → Each OfNode ns → Each OfNode (placed c ns)
  placed_has c [] h k = (h, tt)
  placed_has c (n ∷ ns) h k = go (le_z c.1 n.1) (placed_has c ns h k.1)
    where
      go : (t : Bool) → Each OfNode (placed c ns) → Each OfNode (cond t (c ∷ n ∷ ns) (n ∷ placed c ns))
      go true r = (h, k)
      go false r = (k.0, r)

  ranked_has : (ns : List Node) → Each OfNode ns → Each OfNode (ranked ns)
  ranked_has [] h = tt
  ranked_has (c ∷ ns) h = placed_has c (ranked ns) h.0 (ranked_has ns h.1)

  merged_has : (n : Node) (ns : List Node) → OfNode n → Each OfNode ns → OfNode (merged_all n ns)
  merged_has n [] h k = h
  merged_has n (c ∷ ns) h k = merged_has (merged_node n c) ns (join n.0 c.0 h k.0) k.1

  shared_has : (ns : List Node) → Each OfNode ns → Each OfNode (shared ns)
  shared_has [] h = tt
  shared_has (n ∷ ns) h = (merged_has n ns h.0 h.1, tt)

  nodes_has : (b : Builder) (w : ℕ) (ns : List Node) → Each OfNode ns → Each OfNode (nodes_of b w ns)
  nodes_has restricted w ns h = each_take OfNode w ns h
  nodes_has relaxed w ns h = go (leb (length ns) w)
    where
      go : (t : Bool) → Each OfNode (cond t ns (take (w - 1) ns ++ shared (drop (w - 1) ns)))
      go true = h
      go false = each_append OfNode (take (w - 1) ns) (shared (drop (w - 1) ns)) (each_take OfNode (w - 1) ns h) (shared_has (drop (w - 1) ns) (each_drop OfNode (w - 1) ns h))

  next_has : (b : Builder) (w : ℕ) (os : List (List (Option Node))) → Each (Each (OfChild P)) os → Each OfNode (nodes_of b w (states os))
  next_has b w os h = nodes_has b w (states os) (ranked_has (distinct [] (flat os)) (distinct_has [] (flat os) tt (each_flat (OfChild P) os h)))

-- ---- building: totals behind, reach ahead and their sums
-- the states of some nodes
abbrev Nodes : Campaign → (Rule → ℕ) → List Node → Type 0
Nodes q m ns = Each (λ n. Sized m q.rules n.0) ns

module _ (q : Campaign) (m : Rule → ℕ) (i s : ℕ) (ss : List ℕ) where
  -- the bound of the next layer
  abbrev later : Rule → ℕ
  later r = grown q (greatest q) m i s r

  step_sized : (t : State) → Sized m q.rules t → (v : ℕ) → In v (steps_of q.steps s) → Sized later q.rules (child q.rules i v t)
  step_sized t h v k = child_sized (grown_step q (greatest q) m i s) q.rules i v t h (step_bears q i s v k).1

  arrival_sized : (o : Rank) (n : Node) → Sized m q.rules n.0 → (v : ℕ) → OfChild (Sized later q.rules) (arrival o q i s ss n v)
  arrival_sized o n h v = go (allows q.steps s v && may_keep_all q.rules (child q.rules i v n.0) (reaches q (suc i) ss)) refl
    where
      go : (t : Bool) → (allows q.steps s v && may_keep_all q.rules (child q.rules i v n.0) (reaches q (suc i) ss)) ≡ t
          → OfChild (Sized later q.rules) (cond t (some (child q.rules i v n.0, o n.1 i v)) none)
      go true e = step_sized n.0 h v (in_steps q.steps s v (and_l (allows q.steps s v) _ e))
      go false e = tt

  arrivals_sized : (o : Rank) (n : Node) → Sized m q.rules n.0 → Each (OfChild (Sized later q.rules)) (arrivals o q i s ss n)
  arrivals_sized o n h = each_map (λ v. Unit {0}) (OfChild (Sized later q.rules)) (arrival o q i s ss n) (λ v u. arrival_sized o n h v) (from 0 q.steps) (each_of (λ v. Unit {0}) (λ v. tt) (from 0 q.steps))

  next_sized : (b : Builder) (o : Rank) (w : ℕ) (ns : List Node) → Nodes q m ns
      → Nodes q later (nodes_of b w (states (map (arrivals o q i s ss) ns)))
  next_sized b o w ns h =
      next_has (Sized later q.rules) (merged_sized later q.rules) b w (map (arrivals o q i s ss) ns)
      (each_map (λ n. Sized m q.rules n.0) (Each (OfChild (Sized later q.rules))) (arrivals o q i s ss) (arrivals_sized o) ns h)

  -- the numbers of a node's child, and of the node with its children
  abbrev child_numbers : State → ℕ → List ℤ
  child_numbers t v = let c = child q.rules i v t in ends c ++ meeting_sums c (reaches q (suc i) ss)

  abbrev node_numbers : Node → List ℤ
  node_numbers n = ends n.0 ++ gather (child_numbers n.0) (steps_of q.steps s)

  module _ (top : ℕ) (room : Room q (greatest q) top m i (s ∷ ss)) where
    child_within : (t : State) → Sized m q.rules t → (v : ℕ) → In v (steps_of q.steps s) → Each (Within top) (child_numbers t v)
    child_within t h v k =
        let c = child q.rules i v t in
        let e = reaches q (suc i) ss in
        let sized = step_sized t h v k in
        let rest = (grown_room q (greatest q) top m i s ss room).1 in
        each_append (Within top) (ends c) (meeting_sums c e) (ends_within top later q.rules c sized (left_less top later (reach_size q (suc i) ss) q.rules rest))
        (sums_within top later (reach_size q (suc i) ss) q.rules c e sized (reaches_sized q (suc i) ss q.rules) rest)

    node_within : (n : Node) → Sized m q.rules n.0 → Each (Within top) (node_numbers n)
    node_within n h =
        let steps = steps_of q.steps s in
        each_append (Within top) (ends n.0) (gather (child_numbers n.0) steps)
        (ends_within top m q.rules n.0 h (left_less top m (reach_size q i (s ∷ ss)) q.rules room.1))
        (each_gather (λ v. In v steps) (Within top) (child_numbers n.0) (child_within n.0 h) steps (each_in (λ v. In v steps) steps (λ v k. k)))

module _ (q : Campaign) (top : ℕ) where
  reaches_within : (m : Rule → ℕ) (i : ℕ) (ss : List ℕ) → Room q (greatest q) top m i ss → Each (Within top) (ends (reaches q i ss))
  reaches_within m i ss e = ends_within top (reach_size q i ss) q.rules (reaches q i ss) (reaches_sized q i ss q.rules) (right_less top m (reach_size q i ss) q.rules e.1)

  layer_within : (m : Rule → ℕ) (i s : ℕ) (ss : List ℕ) (l : Layer) → Room q (greatest q) top m i (s ∷ ss) → Nodes q m l.nodes
      → Each (Within top) (layer_numbers q i s ss l)
  layer_within m i s ss l e h =
      let ns = l.nodes in
      each_append (Within top) (ends (reaches q (suc i) ss)) (gather (node_numbers q m i s ss) ns)
      (reaches_within (later q m i s ss) (suc i) ss (grown_room q (greatest q) top m i s ss e))
      (each_gather (λ n. Sized m q.rules n.0) (Within top) (node_numbers q m i s ss) (node_within q m i s ss top e) ns h)

  layers_within : (b : Builder) (o : Rank) (w : ℕ) (m : Rule → ℕ) (i : ℕ) (ns : List Node) (ss : List ℕ) → Room q (greatest q) top m i ss
      → Nodes q m ns → Each (Within top) (layers_numbers q i ss (layers b o q w i ns ss))
  layers_within b o w m i ns [] e h = tt
  layers_within b o w m i ns (s ∷ []) e h =
      let l : Layer = record { nodes = ns; states = []; arcs = map (map sink_byte) (map (arrivals o q i s []) ns) } in
      each_append (Within top) (layer_numbers q i s [] l) [] (layer_within m i s [] l e h) tt
  layers_within b o w m i ns (s ∷ s' ∷ ss) e h =
      let os = map (arrivals o q i s (s' ∷ ss)) ns in
      let ts = states os in
      let l : Layer = record { nodes = ns; states = ts; arcs = map (map (arc_byte b w ts)) os } in
      each_append (Within top) (layer_numbers q i s (s' ∷ ss) l) (layers_numbers q (suc i) (s' ∷ ss) (layers b o q w (suc i) (nodes_of b w ts) (s' ∷ ss)))
      (layer_within m i s (s' ∷ ss) l e h)
      (layers_within b o w (later q m i s (s' ∷ ss)) (suc i) (nodes_of b w ts) (s' ∷ ss) (grown_room q (greatest q) top m i s (s' ∷ ss) e) (next_sized q m i s (s' ∷ ss) b o w ns h))

  pub build_within : (b : Builder) (w : ℕ) → Room q (greatest q) top start_size 0 q.sets → Each (Within top) (build_numbers b q w)
  build_within b w e =
      each_append (Within top) (ends (reaches q 0 q.sets)) (layers_numbers q 0 q.sets (layers_of b q w)) (reaches_within start_size 0 q.sets e)
      (layers_within b first_appearance w start_size 0 (source q) q.sets e (starts_sized q.rules, tt))
