-- Which path do the costs up lead along? From each node the first step whose arc reaches the node's own cost up.
use Rattle.std.specs.Prelude.{List, [], ◌∷◌, Bool, false, cond, ℕ, suc, ◌-◌, get_or, ℤ, pos}
use Rattle.std.proofs.Math.Option.{none, some}
use Rattle.laws.specs.Z.{eq_z}
use Rattle.meaning.specs.Plan.{Campaign}
use Rattle.meaning.specs.Diagram.{Arcs}
use Rattle.meaning.specs.Filter.{Numbers, up_arc, up_node, ups}

-- a node has numbers, and its cost is z
abbrev pub cost_is : ℤ → Numbers → Bool
cost_is z none = false
cost_is z (some x) = eq_z x.1 z

-- the cost of a node, 0 where it has none
abbrev pub cost_of : Numbers → ℤ
cost_of none = pos 0
cost_of (some x) = x.1

-- the arc of slot i with step v and byte b reaches cost z; us has the next layer's numbers
abbrev pub reaches_cost : Campaign → ℕ → List Numbers → ℤ → ℕ → ℕ → Bool
reaches_cost q i us z v b = cost_is z (up_arc q i us v b)

-- the first step, from v on, whose byte does; the one behind the last where none does
abbrev pub first_step : Campaign → ℕ → List Numbers → ℤ → ℕ → List ℕ → ℕ
first_step q i us z v [] = v
first_step q i us z v (b ∷ bs) = cond (reaches_cost q i us z v b) v (first_step q i us z (suc v) bs)

-- of a node's bytes, by its own cost up
abbrev pub led_step : Campaign → ℕ → List Numbers → List ℕ → ℕ
led_step q i us bs = first_step q i us (cost_of (up_node q i us 0 bs)) 0 bs

-- the up numbers of the first layer of some arcs, which is layer i
abbrev pub first_ups : Campaign → ℕ → Arcs → List Numbers
first_ups q i a = get_or (ups q i a) 0 []

-- the steps from node k of the first layer to the sink
abbrev pub led : Campaign → ℕ → Arcs → ℕ → List ℕ
led q i [] k = []
led q i (l ∷ ls) k =
    let bs = get_or l k [] in
    let v = led_step q i (first_ups q (suc i) ls) bs in
    v ∷ led q (suc i) ls (get_or bs v 0 - 1)
