-- Is a layer that is made from a row the layer of the meaning?
use mathlib.Core.Path.{◌≡◌, refl, sym, ap, ◌∙◌}
use mathlib.Core.List.{List, [], ◌∷◌, ◌++◌, map, map-append}
use mathlib.Core.Bool.{Bool, true, false, cond, true≢false}
use mathlib.Core.Option
use mathlib.Core.Option.{Option}
use Prim.Native.Nat.{ℕ, suc, min, ◌+◌, ◌*◌, ◌-◌, ◌≤◌}
use native.Mathlib.Omega.{arith}
use borrow.Author.Tests.{leb-true, leb-false}
use lib.Dec.{leb}
use lib.ListN.{length, take, drop, replicate, length-map, length-append, length-take, length-drop}
use Rattle.laws.specs.Lists.{flat, padded}
use Rattle.laws.proofs.Filled.{flat_long}
use Rattle.laws.proofs.Each.{Each}
use Rattle.meaning.specs.Plan.{Campaign}
use Rattle.meaning.specs.Diagram.{Node, first_appearance, arrivals, distinct, states, Builder, relaxed, restricted, shared, nodes_of, arc_byte, sink_byte, Layer, layers}
use Rattle.lent.specs.Small.{Small}
use Rattle.lent.specs.Wide.{Sized}
use Rattle.lent.proofs.FirstOrder.{first_states}
use Rattle.classes.specs.Classes.{class_byte}
use Rattle.layer.specs.Places.{placed}
use Rattle.building.specs.Layers.{Made}
use Rattle.building.proofs.Filled.{Of, OfIf, fill, Long, distinct_of, nodes_of_lem, distinct_filled, arcs_filled, sinks_filled}
use Rattle.building.proofs.Lists.{map-flat, zeros_map, padded_front, flat-padded}
use Rattle.building.proofs.Children.{Totals, totals_merged, Nodes, nodes_long, arrivals_long, arrivals_totals}

-- ---- one layer of the meaning: s is its slot's set, ss are those behind it
module _ (b : Builder) (q : Campaign) (w i : ℕ) (ns : List Node) (s : ℕ) where
  abbrev pub layer_at : List ℕ → Layer
  layer_at [] = record { nodes = ns; states = []; arcs = map (map sink_byte) (map (arrivals first_appearance q i s []) ns) }
  layer_at (t ∷ ss) =
      let os = map (arrivals first_appearance q i s (t ∷ ss)) ns in
      record { nodes = ns; states = states os; arcs = map (map (arc_byte b w (states os))) os }

  -- the nodes of the next one; the last has none
  abbrev pub next_nodes : List ℕ → List Node
  next_nodes [] = []
  next_nodes (t ∷ ss) = nodes_of b w (states (map (arrivals first_appearance q i s (t ∷ ss)) ns))

  pub layers_next : (ss : List ℕ) → layers b first_appearance q w i ns (s ∷ ss) ≡ layer_at ss ∷ layers b first_appearance q w (suc i) (next_nodes ss) ss
  layers_next [] = refl
  layers_next (t ∷ ss) = refl

  pub arcs_long : (ss : List ℕ) → length (layer_at ss).arcs ≡ length ns
  arcs_long [] = length-map (map (arrivals first_appearance q i s []) ns) (map sink_byte) ∙ length-map ns (arrivals first_appearance q i s [])
  arcs_long (t ∷ ss) =
      let os = map (arrivals first_appearance q i s (t ∷ ss)) ns in
      length-map os (map (arc_byte b w (states os))) ∙ length-map ns (arrivals first_appearance q i s (t ∷ ss))

-- the last slot has none behind it
abbrev pub none_left : List ℕ → Bool
none_left [] = true
none_left (t ∷ ss) = false

-- ---- a layer's bytes: those of its arrivals, row by row, zeros behind
bytes_laid : (w : ℕ) (f : ℕ → ℕ) (g : Option Node → ℕ) (os : List (List (Option Node))) (bs : List ℕ) → f 0 ≡ 0 → length (map (map g) os) ≤ w → Each (λ r. length r ≡ 8) (map (map g) os)
    → map f bs ≡ map g (flat os) → map f (bs ++ drop (length (flat os)) (replicate (w * 8) 0)) ≡ flat (padded w (replicate 8 0) (map (map g) os))
bytes_laid w f g os bs z h k e =
    let all = flat (map (map g) os) in
    let same : map f bs ≡ all = e ∙ map-flat g os in
    let size : length (flat os) ≡ length all = sym (length-map (flat os) g) ∙ ap length (map-flat g os) in
    map-append f bs (drop (length (flat os)) (replicate (w * 8) 0))
    ∙ (λ i. same i ++ zeros_map f z (size i) (w * 8) i)
    ∙ padded_front 0 (w * 8) all (omega (arith, flat_long 8 (map (map g) os) k))
    ∙ sym (flat-padded 0 w 8 (map (map g) os) h k)

-- the layer of the meaning in its bytes, and in the number of states behind it, of which the last has none
pub record Stands (b : Builder) (q : Campaign) (w i : ℕ) (ns : List Node) (s : ℕ) (ss : List ℕ) (part : List ℕ) (n : ℕ) : Type 0 where
  pub bytes : part ≡ flat (padded w (replicate 8 0) (layer_at b q w i ns s ss).arcs)
  pub count : none_left ss ≡ false → n ≡ length (layer_at b q w i ns s ss).states

module _ (b : Builder) (q : Campaign) (small : Small q) (w i : ℕ) (ns : List Node) (h : ℕ) (totals : Nodes q h ns) (s : ℕ) where
  abbrev arrived : List ℕ → List (Option Node)
  arrived ss = flat (map (arrivals first_appearance q i s ss) ns)

  module _ (ss : List ℕ) where
    arrived_long : Each (OfIf (Long (length q.rules))) (arrived ss)
    arrived_long = arrivals_long q (h + 7000) (arrived ss) (arrivals_totals q small i ns h totals s ss)

    distinct_totals : Nodes q (h + 7000) (distinct [] (arrived ss))
    distinct_totals = distinct_of (Totals (length q.rules) (h + 7000)) [] (arrived ss) tt (arrivals_totals q small i ns h totals s ss)

    distinct_long : Each (Of (Long (length q.rules))) (distinct [] (arrived ss))
    distinct_long = nodes_long q (h + 7000) (distinct [] (arrived ss)) distinct_totals

    filled_is : distinct [] (map (Option.map fill) (arrived ss)) ≡ map fill (distinct [] (arrived ss))
    filled_is = distinct_filled (length q.rules) small.rules (arrived ss) arrived_long

    filled_states : distinct [] (map (Option.map fill) (arrived ss)) ≡ map fill (states (map (arrivals first_appearance q i s ss) ns))
    filled_states = filled_is ∙ ap (map fill) (sym (first_states q i s ss ns))

  abbrev Sizes : List ℕ → Type 0
  Sizes ss = Sized 8 w ((layer_at b q w i ns s ss).arcs ∷ [])

  abbrev MadeOf : Builder → ℕ → List ℕ → List ℕ → ℕ → Type 0
  MadeOf one k ss part count = Made one k (map (Option.map fill) (arrived ss)) (replicate (w * 8) 0) part count

  arrived_size : (ss : List ℕ) → length (map (Option.map fill) (arrived ss)) ≡ length (arrived ss)
  arrived_size ss = length-map (arrived ss) (Option.map fill)

  module _ {part : List ℕ} {count : ℕ} where
    last_stands : Sizes [] → MadeOf relaxed 1 [] part count → Stands b q w i ns s [] part count
    last_stands sized m =
        let ts = distinct [] (arrived []) in
        let os = map (arrivals first_appearance q i s []) ns in
        let bytes = sinks_filled (length q.rules) small.rules ts (distinct_long []) (arrived []) (arrived_long []) in
        record {
          bytes = m.bytes ∙ rw (arrived_size [], filled_is []) (bytes_laid w (placed relaxed 1) sink_byte os (map (class_byte (map fill ts)) (map (Option.map fill) (arrived []))) refl sized.0.0 sized.0.1 bytes);
          count = λ e. absurd (true≢false e);
        }

    next_stands : (t : ℕ) (ss : List ℕ) → Sizes (t ∷ ss) → MadeOf b w (t ∷ ss) part count → Stands b q w i ns s (t ∷ ss) part count
    next_stands t ss sized m =
        let os = map (arrivals first_appearance q i s (t ∷ ss)) ns in
        let long : Each (Of (Long (length q.rules))) (states os) = rw (first_states q i s (t ∷ ss) ns) (distinct_long (t ∷ ss)) in
        let bytes = arcs_filled (length q.rules) small.rules b w (states os) long (arrived (t ∷ ss)) (arrived_long (t ∷ ss)) in
        record {
          bytes = m.bytes ∙ rw (arrived_size (t ∷ ss), filled_states (t ∷ ss)) (bytes_laid w (placed b w) (arc_byte b w (states os)) os (map (class_byte (map fill (states os))) (map (Option.map fill) (arrived (t ∷ ss)))) refl sized.0.0 sized.0.1 bytes);
          count = λ e. m.states ∙ ap length (filled_states (t ∷ ss)) ∙ length-map (states os) fill;
        }

    -- the last layer is made as a relaxed one with one place
    pub layer_stands : (ss : List ℕ) (last : Bool) → last ≡ none_left ss → Sizes ss → MadeOf (cond last relaxed b) (cond last 1 w) ss part count → Stands b q w i ns s ss part count
    layer_stands [] last e sized m = last_stands sized (rw e at m)
    layer_stands (t ∷ ss) last e sized m = next_stands t ss sized (rw e at m)

  -- the totals of the next nodes
  pub next_totals : (ss : List ℕ) → Nodes q (h + 7000) (next_nodes b q w i ns s ss)
  next_totals [] = tt
  next_totals (t ∷ ss) =
      nodes_of_lem (Totals (length q.rules) (h + 7000)) totals_merged b w (states (map (arrivals first_appearance q i s (t ∷ ss)) ns)) (rw (first_states q i s (t ∷ ss) ns) (distinct_totals (t ∷ ss)))

-- ---- how many nodes come next
pub nodes_count : (b : Builder) (w : ℕ) (ts : List Node) → 1 ≤ w → length (nodes_of b w ts) ≡ min (length ts) w
nodes_count restricted w ts h = omega (arith, length-take w ts)
nodes_count relaxed w ts h = go (leb (length ts) w) refl
  where
    one : (ms : List Node) → 1 ≤ length ms → length (shared ms) ≡ 1
    one [] l = absurd (omega arith)
    one (m ∷ ms) l = refl

    go : (t : Bool) → leb (length ts) w ≡ t → length (cond t ts (take (w - 1) ts ++ shared (drop (w - 1) ts))) ≡ min (length ts) w
    go true e = omega (arith, leb-true (length ts) w e)
    go false e =
        let more = leb-false (length ts) w e in
        omega (arith, length-append (take (w - 1) ts) (shared (drop (w - 1) ts)), length-take (w - 1) ts, one (drop (w - 1) ts) (omega (arith, length-drop (w - 1) ts)))

pub next_count : (b : Builder) (q : Campaign) (w i : ℕ) (ns : List Node) (s : ℕ) (ss : List ℕ) → 1 ≤ w → length (next_nodes b q w i ns s ss) ≡ min (length (layer_at b q w i ns s ss).states) w
next_count b q w i ns s [] h = omega arith
next_count b q w i ns s (t ∷ ss) h = nodes_count b w (states (map (arrivals first_appearance q i s (t ∷ ss)) ns)) h
