-- Which running numbers do the operations make, and does one leave its limit?
use Rattle.std.specs.Prelude.{List, [], ◌∷◌, ◌++◌, map, Bool, not, ℕ, zero, suc, max, ◌+◌, leb, get_or, ℤ, pos, nat_abs, ◌+ℤ◌}
use Rattle.std.proofs.Math.Option.{none, some}
use Rattle.laws.specs.Lists.{every, gather, flat}
use Rattle.meaning.specs.Plan.{Rule, Campaign, steps_of}
use Rattle.meaning.specs.Problem.{limit, size}
use Rattle.meaning.specs.Diagram.{State, child, reaches, Builder, relaxed, restricted, Layer, layers_of, Arcs, built}
use Rattle.meaning.specs.Filter.{Numbers, over, down_numbers, up_numbers, each_arc, drops, within, swept}

-- ---- building: totals, reaches, and the sums of both
-- both ends of every pair
abbrev pub ends : State → List ℤ
ends t = gather (λ p. p.0 ∷ p.1 ∷ []) t

-- the sums made in the test of an arc: totals behind it and numbers ahead
abbrev pub meeting_sums : State → State → List ℤ
meeting_sums [] es = []
meeting_sums (p ∷ t) [] = []
meeting_sums (p ∷ t) (e ∷ es) = (p.0 +ℤ e.0) ∷ (p.1 +ℤ e.1) ∷ meeting_sums t es

-- at layer i: the nodes' totals, the reach of the next layer, the children's totals and their sums with the reach
abbrev pub layer_numbers : Campaign → ℕ → ℕ → List ℕ → Layer → List ℤ
layer_numbers q i s ss l =
    let e = reaches q (suc i) ss in
    ends e ++ gather (λ n. ends n.0 ++ gather (λ v. let c = child q.rules i v n.0 in ends c ++ meeting_sums c e) (steps_of q.steps s)) l.nodes

-- from layer i on
abbrev pub layers_numbers : Campaign → ℕ → List ℕ → List Layer → List ℤ
layers_numbers q i [] ls = []
layers_numbers q i (s ∷ ss) [] = []
layers_numbers q i (s ∷ ss) (l ∷ ls) = layer_numbers q i s ss l ++ layers_numbers q (suc i) ss ls

-- of the whole building, the reach of the campaign first
abbrev pub build_numbers : Builder → Campaign → ℕ → List ℤ
build_numbers b q w = ends (reaches q 0 q.sets) ++ layers_numbers q 0 q.sets (layers_of b q w)

-- ---- filtering: totals and costs down and up, and the sums made in an arc test
-- of a node in one direction
abbrev pub numbers_of : Numbers → List ℤ
numbers_of none = []
numbers_of (some a) = a.1 ∷ ends a.0

-- d has the parent's down numbers over the arc, u the child's up numbers
abbrev pub passing : Numbers → Numbers → List ℤ
passing none u = []
passing (some d) none = []
passing (some d) (some u) = numbers_of (some d) ++ (d.1 +ℤ u.1) ∷ meeting_sums d.0 u.0

-- of an arc, none where there is no arc
abbrev pub arc_numbers : Campaign → ℕ → List Numbers → Numbers → ℕ → ℕ → List ℤ
arc_numbers q i us d v zero = []
arc_numbers q i us d v (suc k) = passing (over q i v d) (get_or us k none)

-- of any arcs
abbrev pub arcs_numbers : Campaign → Arcs → List ℤ
arcs_numbers q a =
    gather numbers_of (flat (down_numbers q a)) ++ gather numbers_of (flat (up_numbers q a)) ++ flat (flat (flat (each_arc (arc_numbers q) q a)))

-- of every round, the closing sweep and the numbers "once more"
abbrev pub round_numbers : ℤ → Campaign → ℕ → Arcs → List ℤ
round_numbers c q zero a = arcs_numbers q a ++ arcs_numbers q (swept q a)
round_numbers c q (suc n) a = arcs_numbers q a ++ round_numbers c q n (drops (within c) q a)

-- ---- of an operation; the restricted builder runs no round
-- building, rounds and the closing sweep
abbrev pub relaxed_numbers : Campaign → ℕ → ℕ → ℤ → List ℤ
relaxed_numbers q w n c = build_numbers relaxed q w ++ round_numbers c q n (built relaxed q w)

-- building and the closing sweep
abbrev pub restricted_numbers : Campaign → ℕ → List ℤ
restricted_numbers q w = build_numbers restricted q w ++ round_numbers (pos 0) q 0 (built restricted q w)

-- 9, one "would leave ±2,000,000"
abbrev pub leaves : List ℤ → Bool
leaves zs = not (every (size limit) zs)

-- ---- the guard: from the campaign alone, the sum over the slots of the greatest size of a cost, and for each rule of a share
-- the greatest size of a slot's number over its steps
abbrev pub greatest_size : (ℕ → ℤ) → List ℕ → ℕ
greatest_size f [] = 0
greatest_size f (v ∷ vs) = max (nat_abs (f v)) (greatest_size f vs)

-- the sum over the slots from slot i on
abbrev pub sizes : ℕ → (ℕ → ℕ → ℤ) → ℕ → List ℕ → ℕ
sizes k f i [] = 0
sizes k f i (s ∷ ss) = greatest_size (f i) (steps_of k s) + sizes k f (suc i) ss

-- of a rule, with the total that it starts with
abbrev pub rule_size : Campaign → Rule → ℕ
rule_size q r = nat_abs r.start + sizes q.steps r.share 0 q.sets

-- one of these is above the limit
abbrev pub guard : Campaign → Bool
guard q = not (every (λ z. leb z limit) (sizes q.steps q.price 0 q.sets ∷ map (rule_size q) q.rules))
