-- How is a diagram built, layer by layer?
use Rattle.std.specs.Prelude.{List, [], ◌∷◌, ◌++◌, map, Bool, true, false, ◌&&◌, cond, ℕ, suc, min, ◌-◌, ltb, leb, length, take, drop, ℤ, pos, ◌+ℤ◌}
use Rattle.std.proofs.Math.Option.{Option, none, some}
use Rattle.std.specs.Int.Signed.{le_z}
use Rattle.laws.specs.Z.{min_z, max_z, eq_z}
use Rattle.laws.specs.Lists.{every, place, flat, from}
use Rattle.meaning.specs.Plan.{Rule, Campaign, allows, steps_of}

-- ---- states
-- "one pair of running totals for every rule, low L and high U"
abbrev pub Pair : Type 0
Pair = ℤ × ℤ

-- a node's state: a pair for every rule
abbrev pub State : Type 0
State = List Pair

-- "L is the least and U the greatest among them"
abbrev pub merged : Pair → Pair → Pair
merged p q = (min_z p.0 q.0, max_z p.1 q.1)

-- place by place
abbrev pub merged_state : State → State → State
merged_state [] t = t
merged_state (p ∷ s) [] = p ∷ s
merged_state (p ∷ s) (q ∷ t) = merged p q ∷ merged_state s t

-- "equal pairs"
abbrev pub eq_state : State → State → Bool
eq_state [] [] = true
eq_state [] (q ∷ t) = false
eq_state (p ∷ s) [] = false
eq_state (p ∷ s) (q ∷ t) = (eq_z p.0 q.0 && eq_z p.1 q.1) && eq_state s t

-- "the child has L plus share and U plus share"
abbrev pub child : List Rule → ℕ → ℕ → State → State
child [] i v t = []
child (r ∷ rs) i v [] = []
child (r ∷ rs) i v (p ∷ t) = (p.0 +ℤ r.share i v, p.1 +ℤ r.share i v) ∷ child rs i v t

-- ---- reach
-- the least and the greatest of some numbers
abbrev pub span : List ℤ → Pair
span [] = (pos 0, pos 0)
span (z ∷ []) = (z, z)
span (z ∷ y ∷ ys) = let rest = span (y ∷ ys) in (min_z z rest.0, max_z z rest.1)

-- "the least and greatest total that slots i to n−1 can add, taken slot by slot over their step sets"
abbrev pub reach : ℕ → Rule → ℕ → List ℕ → Pair
reach k r i [] = (pos 0, pos 0)
reach k r i (s ∷ ss) =
    let here = span (map (r.share i) (steps_of k s)) in
    let rest = reach k r (suc i) ss in
    (here.0 +ℤ rest.0, here.1 +ℤ rest.1)

-- of every rule
abbrev pub reaches : Campaign → ℕ → List ℕ → State
reaches q i ss = map (λ r. reach q.steps r i ss) q.rules

-- ---- the test of an arc: the totals behind it, and what the slots ahead can add
-- "child L + least reach of the next layer ≤ ub"
abbrev pub low_fits : Rule → Pair → Pair → Bool
low_fits r p e = le_z (p.0 +ℤ e.0) r.ub

-- "child U + greatest reach ≥ lb"
abbrev pub high_fits : Rule → Pair → Pair → Bool
high_fits r p e = le_z r.lb (p.1 +ℤ e.1)

-- both
abbrev pub may_keep : Rule → Pair → Pair → Bool
may_keep r p e = low_fits r p e && high_fits r p e

-- "for every rule"
abbrev pub may_keep_all : List Rule → State → State → Bool
may_keep_all [] t es = true
may_keep_all (r ∷ rs) [] es = true
may_keep_all (r ∷ rs) (p ∷ t) [] = true
may_keep_all (r ∷ rs) (p ∷ t) (e ∷ es) = may_keep r p e && may_keep_all rs t es

-- ---- children
-- a node, and a child that arrives: a state, and its rank in its layer
abbrev pub Node : Type 0
Node = State × ℤ

-- a child's rank, by its parent's rank, the slot and the step
abbrev pub Rank : Type 0
Rank = ℤ → ℕ → ℕ → ℤ

-- "in order of first appearance": no rank is less than another
abbrev pub first_appearance : Rank
first_appearance z i v = pos 0

-- the child of a node of layer i by step v, where the arc exists; s is the slot's set, ss are those behind it
abbrev pub arrival : Rank → Campaign → ℕ → ℕ → List ℕ → Node → ℕ → Option Node
arrival o q i s ss n v =
    let c = child q.rules i v n.0 in
    cond (allows q.steps s v && may_keep_all q.rules c (reaches q (suc i) ss)) (some (c, o n.1 i v)) none

-- "for each the slot's steps rising"
abbrev pub arrivals : Rank → Campaign → ℕ → ℕ → List ℕ → Node → List (Option Node)
arrivals o q i s ss n = map (arrival o q i s ss n) (from 0 q.steps)

-- ---- the states of the next layer
abbrev pub has : State → Node → Bool
has t n = eq_state t n.0

-- "child states with equal pairs are one state", with the least rank, at the place of the first
abbrev pub arrive : Node → List Node → List Node
arrive c [] = c ∷ []
arrive c (n ∷ ns) = cond (has c.0 n) ((n.0, min_z n.1 c.1) ∷ ns) (n ∷ arrive c ns)

-- the arrivals one after the other, none where there is no arc
abbrev pub distinct : List Node → List (Option Node) → List Node
distinct seen [] = seen
distinct seen (none ∷ os) = distinct seen os
distinct seen (some c ∷ os) = distinct (arrive c seen) os

-- states stand by rank, equal ranks by first appearance
abbrev pub placed : Node → List Node → List Node
placed c [] = c ∷ []
placed c (n ∷ ns) = cond (le_z c.1 n.1) (c ∷ n ∷ ns) (n ∷ placed c ns)

-- all of them in their order
abbrev pub ranked : List Node → List Node
ranked [] = []
ranked (c ∷ cs) = placed c (ranked cs)

-- the states of the next layer, from the arrivals of each node
abbrev pub states : List (List (Option Node)) → List Node
states os = ranked (distinct [] (flat os))

-- ---- the nodes of the next layer, and the arcs' bytes
pub data Builder : Type 0 where
  relaxed restricted : Builder

-- merged: least L, greatest U, least rank
abbrev pub merged_node : Node → Node → Node
merged_node a b = (merged_state a.0 b.0, min_z a.1 b.1)

-- one node for a list of them
abbrev pub merged_all : Node → List Node → Node
merged_all n [] = n
merged_all n (m ∷ ms) = merged_all (merged_node n m) ms

-- "all others share node W"
abbrev pub shared : List Node → List Node
shared [] = []
shared (n ∷ ns) = merged_all n ns ∷ []

-- relaxed: "if there are at most W states each has its node. Otherwise the first W−1 do"; restricted: "the first W states are kept"
abbrev pub nodes_of : Builder → ℕ → List Node → List Node
nodes_of relaxed w ts = cond (leb (length ts) w) ts (take (w - 1) ts ++ shared (drop (w - 1) ts))
nodes_of restricted w ts = take w ts

-- the byte of an arc to the state at place k: "the child's place plus 1"; restricted: "the others dropped with the arcs into them"
abbrev pub place_byte : Builder → ℕ → ℕ → ℕ
place_byte relaxed w k = suc (min k (w - 1))
place_byte restricted w k = cond (ltb k w) (suc k) 0

-- "0 for no arc"
abbrev pub arc_byte : Builder → ℕ → List Node → Option Node → ℕ
arc_byte b w ts none = 0
arc_byte b w ts (some c) = place_byte b w (place (has c.0) ts)

-- "layer n is one sink in both"
abbrev pub sink_byte : Option Node → ℕ
sink_byte none = 0
sink_byte (some c) = 1

-- ---- the layers, one after the other
-- a layer 0 to n−1: its nodes, the states of the next layer, and for each node a byte for each step
pub record Layer : Type 0 where
  pub nodes : List Node
  pub states : List Node
  pub arcs : List (List ℕ)

-- the layers from layer i on, whose nodes are ns
abbrev pub layers : Builder → Rank → Campaign → ℕ → ℕ → List Node → List ℕ → List Layer
layers b o q w i ns [] = []
layers b o q w i ns (s ∷ []) = record { nodes = ns; states = []; arcs = map (map sink_byte) (map (arrivals o q i s []) ns) } ∷ []
layers b o q w i ns (s ∷ s' ∷ ss) =
    let os = map (arrivals o q i s (s' ∷ ss)) ns in
    let ts = states os in
    record { nodes = ns; states = ts; arcs = map (map (arc_byte b w ts)) os } ∷ layers b o q w (suc i) (nodes_of b w ts) (s' ∷ ss)

-- the totals that the rules start with
abbrev pub starts : List Rule → State
starts rs = map (λ r. (r.start, r.start)) rs

-- "layer 0 has one node, all totals zero"
abbrev pub source : Campaign → List Node
source q = (starts q.rules, pos 0) ∷ []

-- all layers of a diagram, by 01's order of states
abbrev pub layers_of : Builder → Campaign → ℕ → List Layer
layers_of b q w = layers b first_appearance q w 0 (source q) q.sets

-- the arcs of every layer: for each node a byte for each step
abbrev pub Arcs : Type 0
Arcs = List (List (List ℕ))

-- the arcs as they were built
abbrev pub built : Builder → Campaign → ℕ → Arcs
built b q w = map (λ l. l.arcs) (layers_of b q w)

-- the next layer has at most W states
abbrev pub narrow : ℕ → Layer → Bool
narrow w l = leb (length l.states) w

-- "exact if no layer 1 to n−1 had more than W states, else open"
abbrev pub is_exact : Builder → Campaign → ℕ → Bool
is_exact b q w = every (narrow w) (layers_of b q w)
