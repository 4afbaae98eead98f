-- Which plans are paths of any arcs, and what are the two bounds?
use Rattle.std.specs.Prelude.{List, [], ◌∷◌, Bool, false, ◌&&◌, ℕ, zero, suc, eqb, get_or, ℤ}
use Rattle.std.proofs.Math.Option.{Option, none, map}
use Rattle.laws.specs.Lists.{keep, last_or}
use Rattle.meaning.specs.Plan.{Campaign, plans, lawfuls, cost, cheapest}
use Rattle.meaning.specs.Diagram.{Arcs}
use Rattle.meaning.specs.Filter.{down_numbers, relaxed_arcs, restricted_arcs}

-- what f says of the place that an arc's byte leads to; where there is no arc, no
abbrev pub along : (ℕ → Bool) → ℕ → Bool
along f zero = false
along f (suc j) = f j

-- from place k of the first layer the steps lead along arcs to the sink, slot by slot
abbrev pub walks : Arcs → ℕ → List ℕ → Bool
walks [] k [] = eqb k 0
walks [] k (v ∷ p) = false
walks (l ∷ ls) k [] = false
walks (l ∷ ls) k (v ∷ p) = along (λ j. walks ls j p) (get_or (get_or l k []) v 0)

-- a path: from the source
abbrev pub is_path : Arcs → List ℕ → Bool
is_path a p = walks a 0 p

-- the byte of the arc from node j of layer i with step v, 0 for no arc
abbrev pub arc_at : Arcs → ℕ → ℕ → ℕ → ℕ
arc_at a i j v = get_or (get_or (get_or a i []) j []) v 0

-- "lies on": from place k the steps come at slot i to node j and take step v there
abbrev pub passes : ℕ → ℕ → ℕ → Arcs → ℕ → List ℕ → Bool
passes i j v [] k p = false
passes i j v (l ∷ ls) k [] = false
passes zero j v (l ∷ ls) k (u ∷ p) = eqb k j && eqb u v
passes (suc i) j v (l ∷ ls) k (u ∷ p) = along (λ m. passes i j v ls m p) (get_or (get_or l k []) u 0)

-- the plans that are paths, in dictionary order
abbrev pub paths : Campaign → Arcs → List (List ℕ)
paths q a = keep (is_path a) (plans q.steps q.sets)

-- "the sink's cost down, or none if the source is absent": the sink has none then
abbrev pub bound : Campaign → Arcs → Option ℤ
bound q a = map (λ n. n.1) (get_or (last_or [] (down_numbers q a)) 0 none)

-- of the relaxed diagram
abbrev pub dual : Campaign → ℕ → ℕ → ℤ → Option ℤ
dual q w n c = bound q (relaxed_arcs q w n c)

-- "the cheapest path of the restricted diagram and, of equal ones, the first in dictionary order"
abbrev pub shown : Campaign → ℕ → Option (List ℕ)
shown q w = cheapest q (paths q (restricted_arcs q w))

-- "the cost of a plan that is shown"
abbrev pub primal : Campaign → ℕ → Option ℤ
primal q w = map (cost q) (shown q w)

-- the least lawful cost
abbrev pub least : Campaign → Option ℤ
least q = map (cost q) (cheapest q (lawfuls q))
