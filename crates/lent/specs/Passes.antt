-- What do the two passes make of one layer's arcs, rows and cells, lane by lane?
use Rattle.std.specs.Prelude.{◌≡◌, List, [], ◌∷◌, ◌++◌, map, Bool, ◌||◌, cond, ℕ, zero, suc, ◌+◌, ◌*◌, ◌≤◌, length, get_or, replicate, ℤ, pos, neg_ℤ, ◌-ℤ◌}
use Rattle.std.proofs.Math.Seq.{paste}
use Rattle.laws.specs.Z.{eq_z, Within}
use Rattle.laws.specs.Lists.{gather, from, padded, parted}
use Rattle.laws.proofs.Each.{Each}
use Rattle.lent.specs.Lanes.{lanes_at, arc_at, zipped, sums, leasts, at_most}

-- ---- the forms: a slot's row has 8 shares for each of 8 steps and their prices, a layer's row 17 lanes for each of 16 nodes; a byte leads to one of 16 places
pub record Slot (row : List ℤ) : Type 0 where
  pub long : length row ≡ 72
  pub inside : Each (Within 4000000) row

pub record Row (row : List ℤ) : Type 0 where
  pub long : length row ≡ 272
  pub inside : Each (Within 4000000) row

-- a row that numbers are still brought to: sums of two, none of them tested yet
pub record Spare (row : List ℤ) : Type 0 where
  pub long : length row ≡ 272
  pub inside : Each (Within 8000000) row

abbrev pub Bytes : List ℕ → Type 0
Bytes bs = Each (λ b. b ≤ 16) bs

-- a node without numbers has its cost lane, and every other, at 4,000,000
abbrev pub far : List ℤ → Bool
far x = eq_z (get_or x 16 (pos 0)) (pos 4000000)

abbrev pub nowhere : List ℤ
nowhere = replicate 17 (pos 4000000)

-- ---- down
-- an arc with step v brings the lanes x to the place that its byte leads to; 0 leads nowhere
abbrev pub bring : List ℤ → List ℤ → ℕ → ℕ → List ℤ → List ℤ
bring row x v zero next = next
bring row x v (suc k) next = paste next (k * 17) (leasts (lanes_at next (k * 17)) (sums x (arc_at row v))) 17

-- the arcs of a node, from step v on
abbrev pub bring_node : List ℤ → List ℤ → ℕ → List ℕ → List ℤ → List ℤ
bring_node row x v [] next = next
bring_node row x v (b ∷ bs) next = bring_node row x (suc v) bs (bring row x v b next)

-- the nodes of a layer, from node j on
abbrev pub bring_layer : List ℤ → List ℤ → ℕ → List (List ℕ) → List ℤ → List ℤ
bring_layer row here j [] next = next
bring_layer row here j (bs ∷ l) next =
    let x = lanes_at here (j * 17) in bring_layer row here (suc j) l (cond (far x) next (bring_node row x 0 bs next))

-- ---- up
-- what an arc with step v brings up from place k of the next layer
abbrev pub arc_lanes : List ℤ → List ℤ → ℕ → ℕ → List ℤ
arc_lanes row next v k = sums (lanes_at next (k * 17)) (arc_at row v)

-- an arc counts if its child has numbers
abbrev pub raise : List ℤ → List ℤ → ℕ → ℕ → List ℤ → List ℤ
raise row next v zero up = up
raise row next v (suc k) up = cond (far (lanes_at next (k * 17))) up (leasts up (arc_lanes row next v k))

-- the arcs of a node, from step v on
abbrev pub raise_node : List ℤ → List ℤ → ℕ → List ℕ → List ℤ → List ℤ
raise_node row next v [] up = up
raise_node row next v (b ∷ bs) up = raise_node row next (suc v) bs (raise row next v b up)

-- node by node
abbrev pub raise_layer : List ℤ → List ℤ → List (List ℕ) → List (List ℤ)
raise_layer row next l = map (λ bs. raise_node row next 0 bs nowhere) l

-- the byte that remains: the child has numbers, and no lane that the arc brings up is above the parent's room
abbrev pub test_byte : List ℤ → List ℤ → List ℤ → ℕ → ℕ → ℕ
test_byte row next room v zero = 0
test_byte row next room v (suc k) = cond (far (lanes_at next (k * 17))) 0 (cond (at_most (arc_lanes row next v k) room) (suc k) 0)

-- of a node, from step v on
abbrev pub test_node : List ℤ → List ℤ → List ℤ → ℕ → List ℕ → List ℕ
test_node row next room v [] = []
test_node row next room v (b ∷ bs) = test_byte row next room v b ∷ test_node row next room (suc v) bs

-- ---- cells
-- all zero where a number is missing, else 1, for each rule low and high down, low and high up, then both costs
abbrev pub node_lanes : ℕ → List ℤ → List ℤ → List ℤ
node_lanes m d u =
    let z = pos 0 in
    let rules = gather (λ r. get_or d r z ∷ neg_ℤ (get_or d (8 + r) z) ∷ get_or u r z ∷ neg_ℤ (get_or u (8 + r) z) ∷ []) (from 0 m) in
    cond (far d || far u) (replicate (4 * m + 3) z) (pos 1 ∷ rules ++ (get_or d 16 z ∷ get_or u 16 z ∷ []))

-- the down numbers that stand in a node's cells
abbrev pub down_lanes : ℕ → List ℤ → List ℤ
down_lanes m c =
    let z = pos 0 in
    let low = padded 8 z (map (λ r. get_or c (4 * r + 1) z) (from 0 m)) in
    let high = padded 8 z (map (λ r. neg_ℤ (get_or c (4 * r + 2) z)) (from 0 m)) in
    cond (eq_z (get_or c 0 z) z) nowhere (low ++ high ++ (get_or c (4 * m + 1) z ∷ []))

-- cells that hold down numbers only: the up numbers at zero, or all zero
abbrev pub HalfNode : ℕ → List ℤ → Type 0
HalfNode m c = c ≡ node_lanes m (down_lanes m c) (replicate 17 (pos 0))

-- of w nodes
pub record HalfCells (m w : ℕ) (cs : List ℤ) : Type 0 where
  pub long : length cs ≡ w * (4 * m + 3)
  pub inside : Each (Within 4000000) cs
  pub nodes : Each (HalfNode m) (parted w (4 * m + 3) cs)

-- what the arcs of a node may bring up: nothing if it has no down numbers, everything if the test is free, else what the limit leaves
abbrev pub room_lanes : ℕ → Bool → List ℤ → List ℤ → List ℤ
room_lanes m free limit c =
    let z = pos 0 in
    cond (eq_z (get_or c 0 z) z) (replicate 17 (neg_ℤ (pos 4000000))) (cond free (replicate 17 (pos 4000000)) (zipped ◌-ℤ◌ limit (down_lanes m c)))

-- the cells of node j while only its down numbers are known: up at zero
abbrev pub down_cells : ℕ → List ℤ → ℕ → List ℤ
down_cells m here j = node_lanes m (lanes_at here (j * 17)) (replicate 17 (pos 0))

-- the cells of the nodes from j on, with the up numbers of a row
abbrev pub up_cells : ℕ → List ℤ → ℕ → List (List ℤ) → List (List ℤ)
up_cells m here j [] = []
up_cells m here j (c ∷ cs) = node_lanes m (down_lanes m c) (lanes_at here (j * 17)) ∷ up_cells m here (suc j) cs

-- ---- a layer: bytes, by the rooms of its nodes, and cells
abbrev pub test_layer : List ℤ → List ℤ → List (List ℕ) → List (List ℤ) → List (List ℕ)
test_layer row next [] rooms = []
test_layer row next (bs ∷ l) [] = []
test_layer row next (bs ∷ l) (room ∷ rooms) = test_node row next room 0 bs ∷ test_layer row next l rooms

abbrev pub layer_cells : List ℤ → List ℤ → ℕ → List (List ℕ) → List (List ℤ) → List (List ℤ)
layer_cells row next m [] cs = []
layer_cells row next m (bs ∷ l) [] = []
layer_cells row next m (bs ∷ l) (c ∷ cs) = node_lanes m (down_lanes m c) (raise_node row next 0 bs nowhere) ∷ layer_cells row next m l cs
