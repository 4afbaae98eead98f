-- Is the bound the sink's cost down in the cells, and missing exactly if the source's first cell is zero?
use mathlib.Core.Path.{◌≡◌, refl, sym, ◌∙◌, ap}
use mathlib.Core.List.{List, [], ◌∷◌}
use mathlib.Core.Bool.{Bool}
use mathlib.Core.Option.{none, some, map, none-ne-some}
use Prim.Native.Nat.{ℕ, suc, ◌+◌, ◌*◌, ◌≤◌}
use native.Mathlib.Omega.{arith}
use lib.ListN.{length, get_or, get_or-replicate}
use lib.IntN.{ℤ, pos}
use Rattle.laws.specs.Lists.{last_or}
use Rattle.meaning.specs.Plan.{Campaign, slots}
use Rattle.meaning.specs.Diagram.{State, Arcs}
use Rattle.meaning.specs.Filter.{Numbers, begins, zeros, downs}
use Rattle.meaning.specs.Bound.{bound}
use Rattle.meaning.specs.Buffers.{cells_need, node_need, node_cells, number_cells}
use Rattle.meaning.specs.Calls.{bound_of}
use Rattle.meaning.proofs.Attains.{source_up}
use Rattle.meaning.proofs.Bounds.{source_absent}
use Rattle.lent.specs.Small.{Small, Fit}
use Rattle.lent.proofs.Places.{next_downs}
use Rattle.lent.proofs.Fit.{zeros_fit}
use Rattle.lent.proofs.Shape.{Shaped}
use Rattle.diagram.specs.Answers.{bound_said}
use Rattle.diagram.proofs.Cells.{down_at, up_at, cost_down, source_begins, sink_zeros, down_fits, cell_at}

-- the last layer by its place
last_down : (q : Campaign) (i : ℕ) (cs ds : List Numbers) (a : Arcs) → last_or cs (downs q i ds a) ≡ get_or (downs q i ds a) (length a) []
last_down q i cs ds [] = refl
last_down q i cs ds (l ∷ ls) = last_down q (suc i) ds (next_downs q i ds l ls) ls

module _ (q : Campaign) (s : Small q) (w : ℕ) (some_wide : 1 ≤ w) (a : Arcs) (h : Shaped q w a) where
  abbrev sink : Numbers
  sink = down_at q a (length a) 0

  bound_is : bound q a ≡ map (λ n. n.1) sink
  bound_is = ap (λ (l : List Numbers). map (λ n. n.1) (get_or l 0 none)) (last_down q 0 [] (begins q ∷ []) a)

  said : (e : Bool) (d u : Numbers) → sink ≡ d → source_up q a ≡ u → Fit q (length a) d
      → bound_of (map (λ n. n.1) d) e ≡ bound_said (get_or (node_cells (node_need q) (begins q) u) 0 (pos 0)) (get_or (node_cells (node_need q) d (zeros q)) (4 * length q.rules + 1) (pos 0)) e
  said e none none f g fit =
      rw (get_or-replicate (node_need q) 0 (pos 0) (pos 0) (omega arith)) refl
  said e none (some u) f g fit =
      absurd (none-ne-some u (sym ((source_absent q a).0 (bound_is ∙ ap (map (λ n. n.1)) f)) ∙ g))
  said e (some d) none f g fit =
      absurd (none-ne-some d.1 (sym ((source_absent q a).1 g) ∙ bound_is ∙ ap (map (λ n. n.1)) f))
  said e (some d) (some u) f g fit = ap (λ (z : ℤ). bound_said (pos 1) z e) (sym (cost_down q (length a) 0 d _ fit (zeros_fit q)))

  -- in cells that hold the numbers
  module _ (z : ℕ) (room : cells_need q w ≤ z) (x : List ℤ) (is : x ≡ number_cells q w z a) where
    first_cell : get_or x 0 (pos 0) ≡ get_or (node_cells (node_need q) (begins q) (source_up q a)) 0 (pos 0)
    first_cell =
        let place : (0 * w + 0) * node_need q + 0 ≡ 0 = omega arith in
        ap (λ (l : List ℤ). get_or l 0 (pos 0)) is
        ∙ rw place at (cell_at q s w a h z room 0 0 0 (omega arith) (omega arith) (omega arith))
        ∙ ap (λ n. get_or (node_cells (node_need q) n (source_up q a)) 0 (pos 0)) (source_begins q a)

    last_cell : get_or x (slots q * w * node_need q + 4 * length q.rules + 1) (pos 0) ≡ get_or (node_cells (node_need q) sink (zeros q)) (4 * length q.rules + 1) (pos 0)
    last_cell =
        let m = 4 * length q.rules + 1 in
        let here : slots q * w + 0 ≡ slots q * w = omega arith in
        let place : slots q * w * node_need q + 4 * length q.rules + 1 ≡ slots q * w * node_need q + m = omega arith in
        ap (λ (l : List ℤ). get_or l (slots q * w * node_need q + 4 * length q.rules + 1) (pos 0)) is
        ∙ rw place (rw here at (cell_at q s w a h z room (slots q) 0 m (omega arith) (omega arith) (omega arith)))
        ∙ ap (λ (n : ℕ). get_or (node_cells (node_need q) (down_at q a n 0) (up_at q a n 0)) m (pos 0)) (sym h.long)
        ∙ ap (λ n. get_or (node_cells (node_need q) sink n) m (pos 0)) (sink_zeros q a)

    pub bound_cells : (e : Bool)
        → bound_of (bound q a) e ≡ bound_said (get_or x 0 (pos 0)) (get_or x (slots q * w * node_need q + 4 * length q.rules + 1) (pos 0)) e
    bound_cells e =
        ap (λ b. bound_of b e) bound_is ∙ said e sink (source_up q a) refl refl (down_fits q s w a h (length a) 0)
        ∙ (λ i. bound_said (sym first_cell i) (sym last_cell i) e)

    -- the source has numbers up exactly if its first cell is not zero
    pub source_none : source_up q a ≡ none → get_or x 0 (pos 0) ≡ pos 0
    source_none e = first_cell ∙ rw e (get_or-replicate (node_need q) 0 (pos 0) (pos 0) (omega arith))

    pub source_some : {u : State × ℤ} → source_up q a ≡ some u → get_or x 0 (pos 0) ≡ pos 1
    source_some e = first_cell ∙ rw e refl
