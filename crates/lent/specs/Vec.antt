-- Which lanes stand for a node's numbers, for an arc, for a layer's row and for the limit of a test?
use Rattle.std.specs.Prelude.{List, [], ◌∷◌, ◌++◌, map, Bool, true, false, ℕ, ℤ, pos, neg_ℤ}
use Rattle.std.proofs.Math.Option.{none, some}
use Rattle.laws.specs.Lists.{gather, from, padded}
use Rattle.meaning.specs.Plan.{Campaign}
use Rattle.meaning.specs.Filter.{Numbers, Test, on_path, within}
use Rattle.lent.specs.Passes.{nowhere}

-- eight lows, eight highs with their sign turned, a cost: 17 lanes
abbrev pub lanes_of : ℤ → List ℤ → List ℤ → ℤ → List ℤ
lanes_of z low high cost = padded 8 z low ++ padded 8 z (map neg_ℤ high) ++ (cost ∷ [])

-- of a node's numbers
abbrev pub vec : Numbers → List ℤ
vec none = nowhere
vec (some a) = lanes_of (pos 0) (map (λ p. p.0) a.0) (map (λ p. p.1) a.0) a.1

-- of an arc of slot i with step v: each rule's share, and the price
abbrev pub arc_vec : Campaign → ℕ → ℕ → List ℤ
arc_vec q i v = let shares = map (λ r. r.share i v) q.rules in lanes_of (pos 0) shares shares (q.price i v)

-- a slot's row: of each step eight shares, then the prices
abbrev pub slot_vec : Campaign → ℕ → List ℤ
slot_vec q i =
    gather (λ v. padded 8 (pos 0) (map (λ r. r.share i v) q.rules)) (from 0 q.steps) ++ map (λ v. q.price i v) (from 0 q.steps)

-- of a layer's nodes, 16 in a row
abbrev pub row_vec : List Numbers → List ℤ
row_vec ds = gather vec (padded 16 none ds)

-- the sweep's test, or a round's
abbrev pub test_of : Bool → ℤ → Test
test_of true c = on_path
test_of false c = within c

-- the limit of a round: the bounds and the ceiling
abbrev pub limit_vec : ℤ → Campaign → List ℤ
limit_vec c q = lanes_of (pos 2000000) (map (λ r. r.ub) q.rules) (map (λ r. r.lb) q.rules) c
