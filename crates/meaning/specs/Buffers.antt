-- What stands in the lent buffers, cell by cell?
use Rattle.std.specs.Prelude.{List, [], ◌∷◌, ◌++◌, map, Bool, true, ◌&&◌, ℕ, suc, ◌+◌, ◌*◌, leb, length, replicate, ℤ, pos}
use Rattle.std.proofs.Math.Option.{Option, none, some, get_or}
use Rattle.laws.specs.Lists.{every, flat, padded, parted}
use Rattle.meaning.specs.Plan.{Campaign, slots}
use Rattle.meaning.specs.Diagram.{State, Arcs}
use Rattle.meaning.specs.Filter.{Numbers, down_numbers, up_numbers}

-- ---- arcs
-- "Need: 8 × n × W bytes"
abbrev pub arcs_need : Campaign → ℕ → ℕ
arcs_need q w = q.steps * slots q * w

-- z bytes: "byte (i × W + j) × 8 + v", so W nodes to a layer and a byte for each step; past the need zero
abbrev pub arc_bytes : Campaign → ℕ → ℕ → Arcs → List ℕ
arc_bytes q w z a = padded z 0 (flat (map (λ l. flat (padded w (replicate q.steps 0) l)) a))

-- the arcs that bytes stand for
abbrev pub arcs_in : Campaign → ℕ → List ℕ → Arcs
arcs_in q w b = map (parted w q.steps) (parted (slots q) (w * q.steps) b)

-- "0 to W, for the last slot 0 or 1"
abbrev pub of_form : ℕ → Arcs → Bool
of_form w [] = true
of_form w (l ∷ []) = every (every (λ b. leb b 1)) l
of_form w (l ∷ m ∷ ls) = every (every (λ b. leb b w)) l && of_form w (m ∷ ls)

-- ---- numbers
-- the cells of a node: 4m + 3
abbrev pub node_need : Campaign → ℕ
node_need q = 4 * length q.rules + 3

-- "Need: (n + 1) × W × (4m + 3) cells"
abbrev pub cells_need : Campaign → ℕ → ℕ
cells_need q w = suc (slots q) * w * node_need q

-- "for each rule L down, U down, L up, U up"
abbrev pub pair_cells : State → State → List ℤ
pair_cells [] u = []
pair_cells (p ∷ d) [] = []
pair_cells (p ∷ d) (e ∷ u) = p.0 ∷ p.1 ∷ e.0 ∷ e.1 ∷ pair_cells d u

-- "1 if present (on a path) else 0; .. cost down; cost up"; "absent nodes .. are zero"
abbrev pub node_cells : ℕ → Numbers → Numbers → List ℤ
node_cells k none u = replicate k (pos 0)
node_cells k (some d) none = replicate k (pos 0)
node_cells k (some d) (some u) = pos 1 ∷ pair_cells d.0 u.0 ++ (d.1 ∷ u.1 ∷ [])

-- node by node
abbrev pub layer_cells : ℕ → List Numbers → List Numbers → List (List ℤ)
layer_cells k [] us = []
layer_cells k (d ∷ ds) [] = []
layer_cells k (d ∷ ds) (u ∷ us) = node_cells k d u ∷ layer_cells k ds us

-- W nodes to a layer
abbrev pub all_cells : ℕ → ℕ → List (List Numbers) → List (List Numbers) → List ℤ
all_cells k w [] us = []
all_cells k w (d ∷ ds) [] = []
all_cells k w (d ∷ ds) (u ∷ us) = flat (padded w (replicate k (pos 0)) (layer_cells k d u)) ++ all_cells k w ds us

-- z cells: "node j of layer i starts at cell (i × W + j) × (4m + 3)"; past the need zero
abbrev pub number_cells : Campaign → ℕ → ℕ → Arcs → List ℤ
number_cells q w z a = padded z (pos 0) (all_cells (node_need q) w (down_numbers q a) (up_numbers q a))

-- ---- the plan shown
-- z bytes: "the rest zero; all zero if there is no path"
abbrev pub plan_bytes : ℕ → Option (List ℕ) → List ℕ
plan_bytes z p = padded z 0 (get_or p [])
