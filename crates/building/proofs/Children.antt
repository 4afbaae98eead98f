-- Which children do the nodes of a row have, and how large are their totals?
use mathlib.Core.Path.{◌≡◌, refl, sym, ap, ◌∙◌}
use mathlib.Core.List.{List, [], ◌∷◌, map, map-map}
use mathlib.Core.Bool.{Bool, true, false, ◌&&◌, cond}
use mathlib.Core.Option
use mathlib.Core.Option.{Option, none, some}
use Prim.Native.Nat.{ℕ, suc, ◌+◌, ◌*◌, ◌/◌, ◌%◌, ◌≤◌, ◌<◌}
use native.Mathlib.Omega.{arith}
use lib.ListN.{length, get_or, length-map}
use lib.IntN.{pos}
use Rattle.laws.specs.Z.{Within}
use Rattle.laws.specs.Lists.{flat, from, padded}
use Rattle.laws.proofs.Each.{Each, each_below, each_more, each_map, each_flat, each_from}
use Rattle.meaning.specs.Plan.{Rule, Campaign, allows}
use Rattle.meaning.specs.Diagram.{State, merged_state, child, reach, reaches, may_keep_all, Node, first_appearance, arrival, arrivals}
use Rattle.meaning.specs.Filter.{Numbers}
use Rattle.lent.specs.Passes.{Row}
use Rattle.lent.specs.Vec.{vec, slot_vec, row_vec}
use Rattle.lent.proofs.Vec.{row_at, shares_at_lem, slot_vec_lem}
use Rattle.lent.proofs.Stated.{Is, Stated, stated_at}
use Rattle.lent.specs.Small.{Small}
use Rattle.meaning.proofs.Restricted.{child_length}
use Rattle.state.specs.Pairs.{Inside, lessened, fits_in, pairs_at, shares_at}
use Rattle.state.proofs.Joined.{no_pair}
use Rattle.state.proofs.Padded.{share_of, bounds_of, added_child, added-padded, fit_padded, inside_padded}
use Rattle.state.proofs.Sizes.{inside_more, inside_added, inside_merged, merged_length}
use Rattle.reach.proofs.Table.{map-padded, lanes_pairs}
use Rattle.classes.specs.Classes.{Held, Totalled, state_at, arrival_at, no_node}
use Rattle.building.proofs.Filled.{Of, OfIf, fill, Long}
use Rattle.building.proofs.Lists.{rows_made, map-flat}

-- ---- totals: m pairs within the size b
pub record Totals (m b : ℕ) (t : State) : Type 0 where
  pub long : length t ≡ m
  pub inside : Inside b t

pub totals_merged : {m b : ℕ} (s t : State) → Totals m b s → Totals m b t → Totals m b (merged_state s t)
totals_merged {m} {b} s t h k = record { long = merged_length s t (h.long ∙ sym k.long) ∙ h.long; inside = inside_merged b s t h.inside k.inside }

-- all nodes of a layer
abbrev pub Nodes : Campaign → ℕ → List Node → Type 0
Nodes q b ns = Each (Of (Totals (length q.rules) b)) ns

-- of all arrivals
abbrev pub Arrivals : Campaign → ℕ → List (Option Node) → Type 0
Arrivals q b xs = Each (OfIf (Totals (length q.rules) b)) xs

pub nodes_long : (q : Campaign) (b : ℕ) (ns : List Node) → Nodes q b ns → Each (Of (Long (length q.rules))) ns
nodes_long q b ns h = each_more (Of (Totals (length q.rules) b)) (Of (Long (length q.rules))) (λ n t. t.long) ns h

pub arrivals_long : (q : Campaign) (b : ℕ) (xs : List (Option Node)) → Arrivals q b xs → Each (OfIf (Long (length q.rules))) xs
arrivals_long q b xs h = each_more (OfIf (Totals (length q.rules) b)) (OfIf (Long (length q.rules))) own xs h
  where
    own : (x : Option Node) → OfIf (Totals (length q.rules) b) x → OfIf (Long (length q.rules)) x
    own none t = tt
    own (some c) t = t.long

module _ (q : Campaign) (small : Small q) (i : ℕ) where
  shares_inside : (v : ℕ) → v < 8 → Inside 7000 (map (share_of i v) q.rules)
  shares_inside v h =
      each_map (λ (r : Rule). (i v : ℕ) → v < 8 → Within 7000 (r.share i v)) (λ p. Within 7000 p.0 × Within 7000 p.1) (share_of i v) (λ r f. (f i v h, f i v h)) q.rules small.shares

  child_totals : (b v : ℕ) → v < 8 → (t : State) → Totals (length q.rules) b t → Totals (length q.rules) (b + 7000) (child q.rules i v t)
  child_totals b v l t h = record {
    long = child_length q.rules i v t h.long;
    inside = rw (← added_child q.rules i v t) (inside_added b 7000 t (map (share_of i v) q.rules) h.inside (shares_inside v l));
  }

  -- the shares of a step, as they stand in the slot's row
  step_at : (v : ℕ) → v < 8 → shares_at (slot_vec q i) v ≡ padded 8 no_pair (map (share_of i v) q.rules)
  step_at v h =
      let shares = map (λ (r : Rule). r.share i v) q.rules in
      ap (map (λ z. (z, z))) (shares_at_lem q small i v h) ∙ map-padded (λ z. (z, z)) 8 (pos 0) shares ∙ ap (padded 8 no_pair) (map-map (λ z. (z, z)) (λ r. r.share i v) q.rules)

  -- ---- the row of a layer's nodes: their numbers have their states
  module _ (ns : List Node) (few : length ns ≤ 16) (b : ℕ) (totals : Nodes q b ns) (ds : List Numbers) (stated : Stated ds ns) where
    node_at : (j : ℕ) → j < length ns → pairs_at (row_vec ds) (j * 17) ≡ padded 8 no_pair (get_or ns j no_node).0
    node_at j h = go (get_or ds j none) refl (stated_at ds ns j stated h)
      where
        go : (d : Numbers) → get_or ds j none ≡ d → Is d (some (get_or ns j no_node).0) → pairs_at (row_vec ds) (j * 17) ≡ padded 8 no_pair (get_or ns j no_node).0
        go none e k = absurd k
        go (some a) e k = lanes_pairs (row_vec ds) (j * 17) a.0 a.1 (row_at ds j (omega arith) ∙ ap vec e) ∙ ap (padded 8 no_pair) k

    -- the totals are small enough for the classes
    pub nodes_totalled : b ≤ 190000 → Totalled (row_vec ds) (length ns)
    nodes_totalled enough = record {
      few = few;
      totals = λ j h. rw (node_at j h) (inside_padded 190000 8 (get_or ns j no_node).0 (inside_more b 190000 enough (get_or ns j no_node).0 (each_below (Of (Totals (length q.rules) b)) ns j no_node h totals).inside));
    }

    pub nodes_held : Row (row_vec ds) → Held (row_vec ds) (slot_vec q i)
    nodes_held row = record {
      nodes = row.long;
      slot = (slot_vec_lem q small i).long;
      wide = row.inside;
      shares = λ v h. rw (step_at v h) (inside_padded 10000 8 (map (share_of i v) q.rules) (inside_more 7000 10000 (omega arith) (map (share_of i v) q.rules) (shares_inside v h)));
    }

    long_at : (j : ℕ) → j < length ns → length (get_or ns j no_node).0 ≡ length q.rules
    long_at j h = (each_below (Of (Totals (length q.rules) b)) ns j no_node h totals).long

    state_at_lem : (j v : ℕ) → j < length ns → v < 8 → state_at (row_vec ds) (slot_vec q i) (j * 8 + v) ≡ padded 8 no_pair (child q.rules i v (get_or ns j no_node).0)
    state_at_lem j v h l =
        let node : (j * 8 + v) / 8 ≡ j = omega arith in
        let step : (j * 8 + v) % 8 ≡ v = omega arith in
        let n = get_or ns j no_node in
        let shares = map (share_of i v) q.rules in
        let long : length n.0 ≡ length shares = long_at j h ∙ sym (length-map q.rules (share_of i v)) in
        rw (node, step, node_at j h, step_at v l) (added-padded 8 n.0 shares long ∙ ap (padded 8 no_pair) (added_child q.rules i v n.0))

    module _ (set : ℕ) (ss : List ℕ) where
      -- the limit that the children must keep: the bounds less the reach
      abbrev limit : State
      limit = lessened (padded 8 no_pair (map bounds_of q.rules)) (padded 8 no_pair (reaches q (suc i) ss))

      arrival_at_lem : (j v : ℕ) → j < length ns → v < 8
          → arrival_at (row_vec ds) (slot_vec q i) set limit (j * 8 + v) ≡ Option.map fill (arrival first_appearance q i set ss (get_or ns j no_node) v)
      arrival_at_lem j v h l =
          let step : (j * 8 + v) % 8 ≡ v = omega arith in
          let c = child q.rules i v (get_or ns j no_node).0 in
          let long = child_length q.rules i v (get_or ns j no_node).0 (long_at j h) in
          let reaches_long = length-map q.rules (λ r. reach q.steps r (suc i) ss) in
          let fits : fits_in (padded 8 no_pair c) limit ≡ may_keep_all q.rules c (reaches q (suc i) ss) = fit_padded 8 q.rules c (reaches q (suc i) ss) long reaches_long small.rules in
          let keeps = may_keep_all q.rules c (reaches q (suc i) ss) in
          rw (state_at_lem j v h l, step, fits) (go (allows 8 set v && keeps) c ∙ ap (λ k. Option.map fill (cond (allows k set v && keeps) (some (c, pos 0)) none)) (sym small.steps))
        where
          go : (t : Bool) (c : State) → cond t (some (padded 8 no_pair c, pos 0)) none ≡ Option.map fill (cond t (some (c, pos 0)) none)
          go true c = refl
          go false c = refl

      arrivals_made : (k : ℕ) → k ≡ 8
          → map (arrival_at (row_vec ds) (slot_vec q i) set limit) (from 0 (length ns * 8)) ≡ flat (map (λ n. map (λ v. Option.map fill (arrival first_appearance q i set ss n v)) (from 0 k)) ns)
      arrivals_made k e =
          rw e (rows_made (arrival_at (row_vec ds) (slot_vec q i) set limit) (λ n v. Option.map fill (arrival first_appearance q i set ss n v)) 8 no_node ns arrival_at_lem)

      pub arrivals_at : map (arrival_at (row_vec ds) (slot_vec q i) set limit) (from 0 (length ns * 8)) ≡ map (Option.map fill) (flat (map (arrivals first_appearance q i set ss) ns))
      arrivals_at = arrivals_made q.steps small.steps ∙ ap flat (rows ns) ∙ sym (map-flat (Option.map fill) (map (arrivals first_appearance q i set ss) ns))
        where
          rows : (ns : List Node) → map (λ n. map (λ v. Option.map fill (arrival first_appearance q i set ss n v)) (from 0 q.steps)) ns ≡ map (map (Option.map fill)) (map (arrivals first_appearance q i set ss) ns)
          rows [] = refl
          rows (n ∷ ns) = let first = sym (map-map (Option.map fill) (arrival first_appearance q i set ss n) (from 0 q.steps)) in λ d. first d ∷ rows ns d

  -- ---- the children's totals
  module _ (ns : List Node) (b : ℕ) (totals : Nodes q b ns) (set : ℕ) (ss : List ℕ) where
    pub arrivals_totals : Arrivals q (b + 7000) (flat (map (arrivals first_appearance q i set ss) ns))
    arrivals_totals = each_flat (OfIf (Totals (length q.rules) (b + 7000))) (map (arrivals first_appearance q i set ss) ns) (each_map (Of (Totals (length q.rules) b)) (Arrivals q (b + 7000)) (arrivals first_appearance q i set ss) own ns totals)
      where
        step : (n : Node) → Totals (length q.rules) b n.0 → (v : ℕ) → v < 8 → OfIf (Totals (length q.rules) (b + 7000)) (arrival first_appearance q i set ss n v)
        step n t v l = go (allows q.steps set v && may_keep_all q.rules (child q.rules i v n.0) (reaches q (suc i) ss))
          where
            go : (t : Bool) → OfIf (Totals (length q.rules) (b + 7000)) (cond t (some (child q.rules i v n.0, pos 0)) none)
            go true = child_totals b v l n.0 t
            go false = tt

        own : (n : Node) → Totals (length q.rules) b n.0 → Arrivals q (b + 7000) (arrivals first_appearance q i set ss n)
        own n t = each_map (λ v. v < 8) (OfIf (Totals (length q.rules) (b + 7000))) (arrival first_appearance q i set ss n) (step n t) (from 0 q.steps) (each_from (λ v. v < 8) 0 q.steps (λ v h. omega (arith, small.steps)))
