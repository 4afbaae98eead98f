-- Are the cells that lanes are written to those of the node's numbers, and are a node's down numbers read from them again?
use mathlib.Core.Path.{◌≡◌, refl, sym, ◌∙◌, ap}
use mathlib.Core.List.{List, [], ◌∷◌, ◌++◌, map}
use mathlib.Core.Option.{none, some}
use Prim.Native.Nat.{ℕ, zero, suc, ◌+◌, ◌*◌, ◌≤◌, ◌<◌}
use native.Mathlib.Omega.{arith}
use native.Mathlib.Nat.{zero-add}
use lib.ListN.{length, get_or, replicate, length-map, get_or-replicate, get_or-map}
use lib.Seq.{get_or_at}
use lib.IntN.{ℤ, pos, neg_ℤ}
use Rattle.laws.specs.Z.{Within}
use Rattle.laws.specs.Lists.{gather, from, padded}
use Rattle.laws.proofs.Filled.{map_places}
use Rattle.laws.proofs.Each.{Each, each_append}
use Rattle.meaning.specs.Plan.{Rule, Campaign}
use Rattle.meaning.specs.Diagram.{Pair, State}
use Rattle.meaning.specs.Filter.{Numbers, zeros}
use Rattle.meaning.specs.Buffers.{pair_cells, node_cells}
use Rattle.meaning.proofs.Sizes.{larger}
use Rattle.lent.specs.Passes.{node_lanes, down_lanes}
use Rattle.lent.specs.Vec.{vec}
use Rattle.lent.specs.Small.{Small, FitPair, Fit}
use Rattle.lent.proofs.Fit.{zeros_fit}
use Rattle.lent.proofs.Lanes.{block_low, block_high, block_cost, neg_neg}
use Rattle.lent.proofs.Vec.{far_some, length_lows, length_highs}

-- no pair
abbrev origin : Pair
origin = (pos 0, pos 0)

-- ---- the lanes of numbers, one by one
turned_high : (t : State) (r : ℕ) → get_or (map neg_ℤ (map (λ p. p.1) t)) r (pos 0) ≡ neg_ℤ (get_or t r origin).1
turned_high t r = get_or-map neg_ℤ (map (λ p. p.1) t) r (pos 0) ∙ ap neg_ℤ (get_or-map (λ (p : Pair). p.1) t r origin)

module _ (a : State × ℤ) where
  lane_low : (r : ℕ) → r < 8 → get_or (vec (some a)) r (pos 0) ≡ (get_or a.0 r origin).0
  lane_low r h = block_low (pos 0) (map (λ p. p.0) a.0) (map neg_ℤ (map (λ p. p.1) a.0)) a.1 r h ∙ get_or-map (λ (p : Pair). p.0) a.0 r origin

  lane_high : (r : ℕ) → r < 8 → neg_ℤ (get_or (vec (some a)) (8 + r) (pos 0)) ≡ (get_or a.0 r origin).1
  lane_high r h =
      ap neg_ℤ (block_high (pos 0) (map (λ p. p.0) a.0) (map neg_ℤ (map (λ p. p.1) a.0)) a.1 r h ∙ turned_high a.0 r) ∙ neg_neg (get_or a.0 r origin).1

  lane_cost : get_or (vec (some a)) 16 (pos 0) ≡ a.1
  lane_cost = block_cost (pos 0) (map (λ p. p.0) a.0) (map neg_ℤ (map (λ p. p.1) a.0)) a.1 (pos 0)

-- the cells of rule r
abbrev lane_cells : List ℤ → List ℤ → ℕ → List ℤ
lane_cells d u r = get_or d r (pos 0) ∷ neg_ℤ (get_or d (8 + r) (pos 0)) ∷ get_or u r (pos 0) ∷ neg_ℤ (get_or u (8 + r) (pos 0)) ∷ []

lane_cells_lem : (a b : State × ℤ) (r : ℕ) → r < 8
    → lane_cells (vec (some a)) (vec (some b)) r ≡ (get_or a.0 r origin).0 ∷ (get_or a.0 r origin).1 ∷ (get_or b.0 r origin).0 ∷ (get_or b.0 r origin).1 ∷ []
lane_cells_lem a b r h = rw (lane_low a r h, lane_high a r h, lane_low b r h, lane_high b r h)

-- ---- cells of pairs, place by place
pairs_places : (d u : State) (j : ℕ) (f : ℕ → List ℤ) → length u ≡ length d
    → ((r : ℕ) → r < length d → f (j + r) ≡ (get_or d r origin).0 ∷ (get_or d r origin).1 ∷ (get_or u r origin).0 ∷ (get_or u r origin).1 ∷ [])
    → gather f (from j (length d)) ≡ pair_cells d u
pairs_places [] u j f e h = refl
pairs_places (p ∷ d) [] j f e h = absurd (omega arith)
pairs_places (p ∷ d) (o ∷ u) j f e h =
    let here : j + 0 ≡ j = omega arith in
    let first : f j ≡ p.0 ∷ p.1 ∷ o.0 ∷ o.1 ∷ [] = rw here at (h 0 (omega arith)) in
    rw (first, pairs_places d u (suc j) f (omega arith) (λ r b. let on : suc j + r ≡ j + suc r = omega arith in rw on (h (suc r) (omega arith))))

pub pairs_long : (d u : State) → length u ≡ length d → length (pair_cells d u) ≡ 4 * length d
pairs_long [] u e = refl
pairs_long (p ∷ d) [] e = absurd (omega arith)
pairs_long (p ∷ d) (o ∷ u) e = omega (arith, pairs_long d u (omega arith))

module _ (rest : List ℤ) where
  low_cell : (d u : State) (r : ℕ) → length u ≡ length d → r < length d → get_or (pair_cells d u ++ rest) (4 * r) (pos 0) ≡ (get_or d r origin).0
  low_cell [] u r e h = absurd (omega arith)
  low_cell (p ∷ d) [] r e h = absurd (omega arith)
  low_cell (p ∷ d) (o ∷ u) zero e h = refl
  low_cell (p ∷ d) (o ∷ u) (suc r) e h = let on : 4 * suc r ≡ suc (suc (suc (suc (4 * r)))) = omega arith in rw on (low_cell d u r (omega arith) (omega arith))

  high_cell : (d u : State) (r : ℕ) → length u ≡ length d → r < length d → get_or (pair_cells d u ++ rest) (suc (4 * r)) (pos 0) ≡ (get_or d r origin).1
  high_cell [] u r e h = absurd (omega arith)
  high_cell (p ∷ d) [] r e h = absurd (omega arith)
  high_cell (p ∷ d) (o ∷ u) zero e h = refl
  high_cell (p ∷ d) (o ∷ u) (suc r) e h = let on : 4 * suc r ≡ suc (suc (suc (suc (4 * r)))) = omega arith in rw on (high_cell d u r (omega arith) (omega arith))

  -- all of them
  low_lanes : (d u : State) → length u ≡ length d → map (λ r. get_or (pos 1 ∷ (pair_cells d u ++ rest)) (4 * r + 1) (pos 0)) (from 0 (length d)) ≡ map (λ p. p.0) d
  low_lanes d u e =
      rw (length_lows d) at (map_places (λ r. get_or (pos 1 ∷ (pair_cells d u ++ rest)) (4 * r + 1) (pos 0)) (map (λ p. p.0) d) (pos 0) (λ r h.
      let on : 4 * r + 1 ≡ suc (4 * r) = omega arith in
      rw on (low_cell d u r e (omega (arith, length_lows d)) ∙ sym (get_or-map (λ (p : Pair). p.0) d r origin))))

  high_lanes : (d u : State) → length u ≡ length d → map (λ r. neg_ℤ (get_or (pos 1 ∷ (pair_cells d u ++ rest)) (4 * r + 2) (pos 0))) (from 0 (length d)) ≡ map neg_ℤ (map (λ p. p.1) d)
  high_lanes d u e =
      rw (length_highs d) at (map_places (λ r. neg_ℤ (get_or (pos 1 ∷ (pair_cells d u ++ rest)) (4 * r + 2) (pos 0))) (map neg_ℤ (map (λ p. p.1) d)) (pos 0) (λ r h.
      let on : 4 * r + 2 ≡ suc (suc (4 * r)) = omega arith in
      rw on (ap neg_ℤ (high_cell d u r e (omega (arith, length_highs d))) ∙ sym (turned_high d r))))

  cost_lane : (d u : State) (c : ℤ) → length u ≡ length d → get_or (pos 1 ∷ (pair_cells d u ++ (c ∷ rest))) (4 * length d + 1) (pos 0) ≡ c
  cost_lane d u c e = let on : 4 * length d + 1 ≡ suc (4 * length d) = omega arith in rw on (get_or_at (pair_cells d u) c rest (pos 0) (4 * length d) (pairs_long d u e))

each_zeros : (n : ℕ) → Each (Within 4000000) (replicate n (pos 0))
each_zeros zero = tt
each_zeros (suc n) = (record { size = omega arith }, each_zeros n)

pairs_within : (h k : ℕ) → h ≤ 24 → k ≤ 24 → (d u : State) → Each (FitPair h) d → Each (FitPair k) u → Each (Within 4000000) (pair_cells d u)
pairs_within h k less few [] u f g = tt
pairs_within h k less few (p ∷ d) [] f g = tt
pairs_within h k less few (p ∷ d) (o ∷ u) f g =
    (larger (omega arith) f.0.0, (larger (omega arith) f.0.1, (larger (omega arith) g.0.0, (larger (omega arith) g.0.1, pairs_within h k less few d u f.1 g.1))))

-- ---- no numbers up yet: zeros
padded_zeros : (n : ℕ) (l : List ℤ) → Each (λ x. x ≡ pos 0) l → padded n (pos 0) l ≡ replicate n (pos 0)
padded_zeros zero l h = refl
padded_zeros (suc n) [] h = ap (λ (r : List ℤ). pos 0 ∷ r) (padded_zeros n [] tt)
padded_zeros (suc n) (x ∷ l) h = rw (h.0, padded_zeros n l h.1)

zero_lows : (rs : List Rule) → Each (λ x. x ≡ pos 0) (map (λ p. p.0) (map (λ r. origin) rs))
zero_lows [] = tt
zero_lows (r ∷ rs) = (refl, zero_lows rs)

zero_highs : (rs : List Rule) → Each (λ x. x ≡ pos 0) (map neg_ℤ (map (λ p. p.1) (map (λ r. origin) rs)))
zero_highs [] = tt
zero_highs (r ∷ rs) = (refl, zero_highs rs)

pub zeros_vec : (q : Campaign) → vec (zeros q) ≡ replicate 17 (pos 0)
zeros_vec q =
    rw (padded_zeros 8 (map (λ p. p.0) (map (λ r. origin) q.rules)) (zero_lows q.rules), padded_zeros 8 (map neg_ℤ (map (λ p. p.1) (map (λ r. origin) q.rules))) (zero_highs q.rules))

module _ (q : Campaign) (s : Small q) where
  -- ---- the cells of a node
  module _ (h k : ℕ) (less : h ≤ 24) (few : k ≤ 24) where
    pub node_cells_lem : (d u : Numbers) → Fit q h d → Fit q k u → node_lanes (length q.rules) (vec d) (vec u) ≡ node_cells (4 * length q.rules + 3) d u
    node_cells_lem none u f g = refl
    node_cells_lem (some a) none f g = rw (far_some q h less a f)
    node_cells_lem (some a) (some b) f g =
        let long : length b.0 ≡ length a.0 = g.long ∙ sym f.long in
        let rules = s.rules in
        rw (far_some q h less a f, far_some q k few b g, lane_cost a, lane_cost b, ← f.long)
        (ap (λ (l : List ℤ). pos 1 ∷ (l ++ (a.1 ∷ b.1 ∷ []))) (pairs_places a.0 b.0 0 (lane_cells (vec (some a)) (vec (some b))) long (λ r l. rw (zero-add r) (lane_cells_lem a b r (omega (arith, f.long))))))

    pub cells_within : (n : ℕ) (d u : Numbers) → Fit q h d → Fit q k u → Each (Within 4000000) (node_cells n d u)
    cells_within n none u f g = each_zeros n
    cells_within n (some a) none f g = each_zeros n
    cells_within n (some a) (some b) f g =
        (record { size = omega arith }, each_append (Within 4000000) (pair_cells a.0 b.0) (a.1 ∷ b.1 ∷ []) (pairs_within h k less few a.0 b.0 f.pairs g.pairs) (larger (omega arith) f.cost, (larger (omega arith) g.cost, tt)))

  -- ---- the down numbers again
  pub down_lanes_lem : (h : ℕ) → h ≤ 24 → (d : Numbers) → Fit q h d → down_lanes (length q.rules) (node_lanes (length q.rules) (vec d) (replicate 17 (pos 0))) ≡ vec d
  down_lanes_lem h less d f =
      let m = length q.rules in
      ap (down_lanes m) (ap (node_lanes m (vec d)) (sym (zeros_vec q)) ∙ node_cells_lem h 0 less (omega arith) d (zeros q) f (zeros_fit q)) ∙ go d f
    where
      go : (d : Numbers) → Fit q h d → down_lanes (length q.rules) (node_cells (4 * length q.rules + 3) d (zeros q)) ≡ vec d
      go none f = rw (get_or-replicate (4 * length q.rules + 3) 0 (pos 0) (pos 0) (omega arith))
      go (some a) f =
          let u : State = map (λ r. origin) q.rules in
          let long : length u ≡ length a.0 = length-map q.rules (λ r. origin) ∙ sym f.long in
          rw (← f.long, low_lanes (a.1 ∷ pos 0 ∷ []) a.0 u long, high_lanes (a.1 ∷ pos 0 ∷ []) a.0 u long, cost_lane (pos 0 ∷ []) a.0 u a.1 long)
