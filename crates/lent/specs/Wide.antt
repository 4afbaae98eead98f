-- Which arcs, and which bytes, stand for arcs in a buffer that has the same number of nodes in every layer?
use Rattle.std.specs.Prelude.{◌≡◌, List, map, ℕ, ◌≤◌, length, replicate}
use Rattle.laws.specs.Lists.{flat, padded}
use Rattle.laws.proofs.Each.{Each}
use Rattle.meaning.specs.Diagram.{Arcs}

-- every layer with w nodes, those behind its own without an arc; k steps
abbrev pub wide : ℕ → ℕ → Arcs → Arcs
wide k w a = map (padded w (replicate k 0)) a

-- the bytes of arcs, layer by layer, w nodes to a layer
abbrev pub laid : ℕ → ℕ → Arcs → List ℕ
laid k w a = flat (map (λ l. flat (padded w (replicate k 0) l)) a)

-- at most w nodes to a layer, k bytes to a node
abbrev pub Sized : ℕ → ℕ → Arcs → Type 0
Sized k w a = Each (λ l. (length l ≤ w) × Each (λ bs. length bs ≡ k) l) a
