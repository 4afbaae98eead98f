-- Which numbers stand in a node's cells, and where is its cost down, and its cost up?
use mathlib.Core.Path.{◌≡◌, refl, sym, ◌∙◌, ap}
use mathlib.Core.List.{List, [], ◌∷◌, ◌++◌}
use mathlib.Core.Option.{none, some}
use Prim.Native.Nat.{ℕ, zero, suc, ◌+◌, ◌*◌, ◌-◌, ◌≤◌, ◌<◌}
use native.Mathlib.Omega.{arith}
use native.Mathlib.Nat.{mul_assoc}
use lib.ListN.{length, get_or, replicate, length-append, length-replicate}
use lib.Seq.{get_or_at, get_or-append-add}
use lib.IntN.{ℤ, pos}
use Rattle.laws.specs.Z.{Within}
use Rattle.laws.specs.Lists.{padded}
use Rattle.laws.proofs.Filled.{get_or-padded, each_padded}
use Rattle.laws.proofs.Each.{Each, each_at, each_more}
use Rattle.meaning.specs.Plan.{Campaign, slots}
use Rattle.meaning.specs.Diagram.{State, Arcs}
use Rattle.meaning.specs.Filter.{Numbers, begins, zeros, ups, down_numbers, up_numbers}
use Rattle.meaning.specs.Buffers.{cells_need, node_need, pair_cells, node_cells, all_cells, number_cells}
use Rattle.lent.specs.Small.{Small, Fit, FewBytes}
use Rattle.lent.proofs.Fit.{downs_fit, ups_fit}
use Rattle.lent.proofs.Cells.{pairs_long, cells_within}
use Rattle.lent.proofs.Shape.{Shaped}
use Rattle.lent.proofs.Whole.{downs_count, ups_count}
use Rattle.lent.proofs.Table.{Celled, cells_count, cell_at as node_cell, table_each}

-- ---- a node's cells
module _ (q : Campaign) (h k : ℕ) where
  node_long : (d u : Numbers) → Fit q h d → Fit q k u → length (node_cells (node_need q) d u) ≡ node_need q
  node_long none u f g = length-replicate (node_need q) (pos 0)
  node_long (some d) none f g = length-replicate (node_need q) (pos 0)
  node_long (some d) (some u) f g =
      let pairs = pairs_long d.0 u.0 (g.long ∙ sym f.long) in
      omega (arith, length-append (pair_cells d.0 u.0) (d.1 ∷ u.1 ∷ []), f.long)

  module _ (d u : State × ℤ) (f : Fit q h (some d)) (g : Fit q k (some u)) where
    pairs_are : length (pair_cells d.0 u.0) ≡ 4 * length q.rules
    pairs_are = pairs_long d.0 u.0 (g.long ∙ sym f.long) ∙ ap (λ (n : ℕ). 4 * n) f.long

    pub cost_down : get_or (node_cells (node_need q) (some d) (some u)) (4 * length q.rules + 1) (pos 0) ≡ d.1
    cost_down =
        let place : 4 * length q.rules + 1 ≡ suc (4 * length q.rules) = omega arith in
        rw place (get_or_at (pair_cells d.0 u.0) d.1 (u.1 ∷ []) (pos 0) (4 * length q.rules) pairs_are)

    pub cost_up : get_or (node_cells (node_need q) (some d) (some u)) (4 * length q.rules + 2) (pos 0) ≡ u.1
    cost_up =
        let place : 4 * length q.rules + 2 ≡ suc (length (pair_cells d.0 u.0) + 1) = omega (arith, pairs_are) in
        rw place (get_or-append-add (pair_cells d.0 u.0) (d.1 ∷ u.1 ∷ []) 1 (pos 0))

-- ---- the numbers of every layer
module _ (q : Campaign) where
  -- of node j of layer i
  abbrev pub down_at : Arcs → ℕ → ℕ → Numbers
  down_at a i j = get_or (get_or (down_numbers q a) i []) j none

  abbrev pub up_at : Arcs → ℕ → ℕ → Numbers
  up_at a i j = get_or (get_or (up_numbers q a) i []) j none

  pub source_begins : (a : Arcs) → down_at a 0 0 ≡ begins q
  source_begins [] = refl
  source_begins (l ∷ ls) = refl

  pub sink_zeros : (a : Arcs) → up_at a (length a) 0 ≡ zeros q
  sink_zeros a = go 0 a
    where
      go : (i : ℕ) (a : Arcs) → get_or (get_or (ups q i a) (length a) []) 0 none ≡ zeros q
      go i [] = refl
      go i (l ∷ ls) = go (suc i) ls

module _ (q : Campaign) (s : Small q) (w : ℕ) (a : Arcs) (h : Shaped q w a) where
  few : FewBytes a
  few =
      each_more (λ (l : List (List ℕ)). (length l ≤ w) × Each (λ bs. length bs ≡ q.steps) l) (Each (λ bs. length bs ≤ 8))
      (λ l e. each_more (λ (bs : List ℕ). length bs ≡ q.steps) (λ bs. length bs ≤ 8) (λ bs f. omega (arith, s.steps)) l e.1) a h.sized

  pub down_fits : (i j : ℕ) → Fit q i (down_at q a i j)
  down_fits i j = each_at (Fit q i) (get_or (down_numbers q a) i []) j none tt (downs_fit q s a few i)

  pub up_fits : (i j : ℕ) → Fit q (length a - i) (up_at q a i j)
  up_fits i j = each_at (Fit q (length a - i)) (get_or (up_numbers q a) i []) j none tt (ups_fit q s a few i)

  celled : (i : ℕ) → Celled (node_need q) w (get_or (down_numbers q a) i []) (get_or (up_numbers q a) i [])
  celled i j = node_long q i (length a - i) (down_at q a i j) (up_at q a i j) (down_fits i j) (up_fits i j)

  abbrev cells : List ℤ
  cells = all_cells (node_need q) w (down_numbers q a) (up_numbers q a)

  rows : length (down_numbers q a) ≡ suc (slots q)
  rows = downs_count q 0 (begins q ∷ []) a ∙ ap suc h.long

  same_rows : length (up_numbers q a) ≡ length (down_numbers q a)
  same_rows = ups_count q 0 a ∙ sym (downs_count q 0 (begins q ∷ []) a)

  cells_long : length cells ≡ cells_need q w
  cells_long =
      let k = node_need q in
      cells_count k w (down_numbers q a) (up_numbers q a) same_rows celled ∙ ap (λ (n : ℕ). n * (w * k)) rows ∙ sym (mul_assoc (suc (slots q)) w k)

  -- in a buffer that has room for them
  module _ (z : ℕ) (room : cells_need q w ≤ z) where
    -- cell v of node j of layer i
    pub cell_at : (i j v : ℕ) → i ≤ slots q → j < w → v < node_need q
        → get_or (number_cells q w z a) ((i * w + j) * node_need q + v) (pos 0) ≡ get_or (node_cells (node_need q) (down_at q a i j) (up_at q a i j)) v (pos 0)
    cell_at i j v b c e =
        get_or-padded z cells ((i * w + j) * node_need q + v) (pos 0) (omega (arith, cells_long))
        ∙ node_cell (node_need q) w (down_numbers q a) (up_numbers q a) same_rows celled i j v (omega (arith, rows)) c e

    -- behind them zeros
    pub cells_behind : number_cells q w z a ≡ number_cells q w (cells_need q w) a ++ replicate (z - cells_need q w) (pos 0)
    cells_behind = go (cells_need q w) z cells (omega (arith, cells_long)) room
      where
        go : (n z : ℕ) (l : List ℤ) → length l ≤ n → n ≤ z → padded z (pos 0) l ≡ padded n (pos 0) l ++ replicate (z - n) (pos 0)
        go zero z [] h r = let o : z - 0 ≡ z = omega arith in rw o (all z)
          where
            all : (z : ℕ) → padded z (pos 0) [] ≡ replicate z (pos 0)
            all zero = refl
            all (suc z) = ap (λ (r : List ℤ). pos 0 ∷ r) (all z)
        go zero z (x ∷ l) h r = absurd (omega arith)
        go (suc n) zero l h r = absurd (omega arith)
        go (suc n) (suc z) [] h r = let o : suc z - suc n ≡ z - n = omega arith in rw o (ap (λ (r : List ℤ). pos 0 ∷ r) (go n z [] (omega arith) (omega arith)))
        go (suc n) (suc z) (x ∷ l) h r = let o : suc z - suc n ≡ z - n = omega arith in rw o (ap (λ (r : List ℤ). x ∷ r) (go n z l (omega arith) (omega arith)))

    -- none is large
    pub cells_inside : Each (Within 4000000) (number_cells q w z a)
    cells_inside =
        let k = node_need q in
        each_padded (Within 4000000) z (pos 0) cells (record { size = omega arith })
        (table_each k w (Within 4000000) (record { size = omega arith }) (down_numbers q a) (up_numbers q a)
        (λ i j b. cells_within q s i (length a - i) (omega (arith, rows, s.slots)) (omega (arith, h.long, s.slots)) k (down_at q a i j) (up_at q a i j) (down_fits i j) (up_fits i j)))
