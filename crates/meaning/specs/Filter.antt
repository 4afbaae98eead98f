-- Which numbers have the nodes of any arcs, and which arcs fall in a round and in the closing sweep?
use mathlib.Core.List.{List, [], ◌∷◌, map, tail}
use Rattle.std.specs.Prelude.{Bool, true, false, ◌&&◌, cond, ℕ, zero, suc, eqb, length, get_or, ℤ, pos, ◌+ℤ◌}
use Rattle.std.proofs.Math.Option.{Option, none, some}
use Rattle.std.specs.Int.Signed.{le_z}
use Rattle.laws.specs.Z.{min_z}
use Rattle.laws.specs.Lists.{from}
use Rattle.meaning.specs.Plan.{Campaign}
use Rattle.meaning.specs.Diagram.{State, child, merged_state, may_keep_all, Arcs, starts, relaxed, restricted, built}

-- ---- numbers
-- a node's numbers in one direction: a pair for each rule, and a cost; "a node may have none"
abbrev pub Numbers : Type 0
Numbers = Option (State × ℤ)

-- pairs: "the least and greatest over" the arcs; costs: "the least"; "only neighbours that have the number in question count"
abbrev pub meet : Numbers → Numbers → Numbers
meet none n = n
meet (some a) none = some a
meet (some a) (some b) = some (merged_state a.0 b.0, min_z a.1 b.1)

-- over an arc of slot i, step v: a neighbour's "number plus share", a cost "with weight times step"
abbrev pub over : Campaign → ℕ → ℕ → Numbers → Numbers
over q i v none = none
over q i v (some a) = some (child q.rules i v a.0, a.1 +ℤ q.price i v)

-- "up numbers start at zero in the sink"
abbrev pub zeros : Campaign → Numbers
zeros q = some (map (λ r. (pos 0, pos 0)) q.rules, pos 0)

-- "down numbers at zero in the source": at the rules' start totals
abbrev pub begins : Campaign → Numbers
begins q = some (starts q.rules, pos 0)

-- up: of a node of layer i over its outgoing arcs, its bytes from step v on; us has the next layer's numbers
abbrev pub up_arc : Campaign → ℕ → List Numbers → ℕ → ℕ → Numbers
up_arc q i us v zero = none
up_arc q i us v (suc k) = over q i v (get_or us k none)

-- over all outgoing arcs
abbrev pub up_node : Campaign → ℕ → List Numbers → ℕ → List ℕ → Numbers
up_node q i us v [] = none
up_node q i us v (b ∷ bs) = meet (up_arc q i us v b) (up_node q i us (suc v) bs)

-- the up numbers of every layer, from layer i on
abbrev pub ups : Campaign → ℕ → Arcs → List (List Numbers)
ups q i [] = (zeros q ∷ []) ∷ []
ups q i (l ∷ ls) = let rest = ups q (suc i) ls in map (up_node q i (get_or rest 0 []) 0) l ∷ rest

-- down: of place k over the arcs into it, first those of one parent with numbers d, then of every parent
abbrev pub down_node : Campaign → ℕ → ℕ → Numbers → ℕ → List ℕ → Numbers
down_node q i k d v [] = none
down_node q i k d v (b ∷ bs) = let rest = down_node q i k d (suc v) bs in cond (eqb b (suc k)) (meet (over q i v d) rest) rest

-- over the arcs of every parent
abbrev pub down_at : Campaign → ℕ → ℕ → List Numbers → List (List ℕ) → Numbers
down_at q i k [] l = none
down_at q i k (d ∷ ds) [] = none
down_at q i k (d ∷ ds) (bs ∷ l) = meet (down_node q i k d 0 bs) (down_at q i k ds l)

-- how many nodes the first layer of some arcs has; "layer n is one sink"
abbrev pub node_count : Arcs → ℕ
node_count [] = 1
node_count (l ∷ ls) = length l

-- the down numbers of every layer, from layer i on, whose own are ds
abbrev pub downs : Campaign → ℕ → List Numbers → Arcs → List (List Numbers)
downs q i ds [] = ds ∷ []
downs q i ds (l ∷ ls) = ds ∷ downs q (suc i) (map (λ k. down_at q i k ds l) (from 0 (node_count ls))) ls

-- the down numbers of all layers
abbrev pub down_numbers : Campaign → Arcs → List (List Numbers)
down_numbers q a = downs q 0 (begins q ∷ []) a

-- the up numbers of all layers
abbrev pub up_numbers : Campaign → Arcs → List (List Numbers)
up_numbers q a = ups q 0 a

-- ---- all arcs, slot by slot, parent by parent, step by step: what f makes of slot, step, parent's down number, children's up numbers and byte
module _ {A : Type 0} where
  -- of a node, from step v on
  abbrev pub each_step : (ℕ → ℕ → A) → ℕ → List ℕ → List A
  each_step f v [] = []
  each_step f v (b ∷ bs) = f v b ∷ each_step f (suc v) bs

  -- of a layer, with its down numbers
  abbrev pub each_parent : (Numbers → ℕ → ℕ → A) → List Numbers → List (List ℕ) → List (List A)
  each_parent f ds [] = []
  each_parent f [] (bs ∷ l) = []
  each_parent f (d ∷ ds) (bs ∷ l) = each_step (f d) 0 bs ∷ each_parent f ds l

  -- from layer i on, with the numbers of its layers
  abbrev pub each_slot : (ℕ → List Numbers → Numbers → ℕ → ℕ → A) → ℕ → List (List Numbers) → List (List Numbers) → Arcs → List (List (List A))
  each_slot f i ds us [] = []
  each_slot f i [] us (l ∷ ls) = []
  each_slot f i (d ∷ ds) us (l ∷ ls) = each_parent (f i (get_or us 1 [])) d l ∷ each_slot f (suc i) ds (tail us) ls

  -- of the whole diagram, with the numbers of its own arcs
  abbrev pub each_arc : (ℕ → List Numbers → Numbers → ℕ → ℕ → A) → Campaign → Arcs → List (List (List A))
  each_arc f q a = each_slot f 0 (down_numbers q a) (up_numbers q a) a

-- ---- which arcs fall
-- the closing sweep asks only for a path from source to sink; a round asks for the rules and the ceiling too
pub data Test : Type 0 where
  on_path : Test
  within : ℤ → Test

-- "if cost down + weight times step + cost up exceeds the ceiling" it fails
abbrev pub affords : ℤ → State × ℤ → State × ℤ → Bool
affords c d u = le_z (d.1 +ℤ u.1) c

-- "an arc fails if its parent has no down number or its child no up number; if down L + share + up L > ub or
-- down U + share + up U < lb for some rule; or if cost down + weight times step + cost up exceeds the ceiling".
-- d has the parent's down numbers over the arc, u the child's up numbers
abbrev pub stays : Test → Campaign → Numbers → Numbers → Bool
stays e q none u = false
stays e q (some d) none = false
stays on_path q (some d) (some u) = true
stays (within c) q (some d) (some u) = may_keep_all q.rules d.0 u.0 && affords c d u

-- the byte that remains of an arc's byte
abbrev pub test_arc : Test → Campaign → ℕ → List Numbers → Numbers → ℕ → ℕ → ℕ
test_arc e q i us d v zero = 0
test_arc e q i us d v (suc k) = cond (stays e q (over q i v d) (get_or us k none)) (suc k) 0

-- "a round reckons all up and down numbers from the arcs present at its start. Then all arcs are tested and the failing ones fall together"
abbrev pub drops : Test → Campaign → Arcs → Arcs
drops e q a = each_arc (test_arc e q) q a

-- "the asked number of rounds is run"
abbrev pub rounds : ℤ → Campaign → ℕ → Arcs → Arcs
rounds c q zero a = a
rounds c q (suc n) a = rounds c q n (drops (within c) q a)

-- "a closing sweep, in both builders, drops every arc on no path from source to sink"
abbrev pub swept : Campaign → Arcs → Arcs
swept q a = drops on_path q a

-- ---- the two diagrams
-- the rounds are "run, relaxed only"
abbrev pub relaxed_arcs : Campaign → ℕ → ℕ → ℤ → Arcs
relaxed_arcs q w n c = swept q (rounds c q n (built relaxed q w))

-- "takes no ceiling and no rounds"
abbrev pub restricted_arcs : Campaign → ℕ → Arcs
restricted_arcs q w = swept q (built restricted q w)
