-- Which numbers stand in the cells of a node, whatever the campaign?
use mathlib.Core.Path.{◌≡◌, refl, sym, ◌∙◌, subst}
use mathlib.Core.List.{List, [], ◌∷◌, ◌++◌, map}
use mathlib.Core.Bool.{Bool, true, false, cond}
use mathlib.Core.Option.{none, some}
use Prim.Native.Nat.{ℕ, zero, suc, ◌+◌, ◌*◌, ◌≤◌, ◌<◌}
use native.Mathlib.Omega.{arith}
use lib.Dec.{eqb}
use lib.ListN.{length, get_or, length-map, length-append, length-replicate}
use lib.Seq.{get_or-append-add}
use lib.IntN.{ℤ, pos}
use Rattle.laws.specs.Lists.{from}
use Rattle.laws.proofs.Each.{Each, each_at}
use Rattle.meaning.specs.Plan.{Campaign}
use Rattle.meaning.specs.Diagram.{Pair, State, Arcs}
use Rattle.meaning.specs.Filter.{Numbers, meet, over, begins, up_node, ups, down_node, down_at, node_count, downs, down_numbers, up_numbers}
use Rattle.meaning.specs.Buffers.{node_need, pair_cells, node_cells, all_cells}
use Rattle.meaning.proofs.Restricted.{child_length}
use Rattle.lent.proofs.Places.{next_downs}
use Rattle.lent.proofs.Cells.{pairs_long}
use Rattle.lent.proofs.Fit.{merged_long}
use Rattle.lent.proofs.Whole.{downs_at, ups_at, downs_count, ups_count}
use Rattle.lent.proofs.Table.{cell_at as node_cell}

-- ---- numbers with a pair for each rule, if there are any
abbrev Long : Campaign → Numbers → Type 0
Long q none = Unit {0}
Long q (some a) = length a.0 ≡ length q.rules

each_made : {A B : Type 0} (P : B → Type 0) (f : A → B) → ((x : A) → P (f x)) → (l : List A) → Each P (map f l)
each_made P f h [] = tt
each_made P f h (x ∷ l) = (h x, each_made P f h l)

module _ (q : Campaign) where
  meet_long : (a b : Numbers) → Long q a → Long q b → Long q (meet a b)
  meet_long none b f g = g
  meet_long (some a) none f g = f
  meet_long (some a) (some b) f g = merged_long a.0 b.0 (omega arith) ∙ f

  over_long : (i v : ℕ) (n : Numbers) → Long q n → Long q (over q i v n)
  over_long i v none f = tt
  over_long i v (some a) f = child_length q.rules i v a.0 f

  up_long : (i : ℕ) (us : List Numbers) → Each (Long q) us → (v : ℕ) (bs : List ℕ) → Long q (up_node q i us v bs)
  up_long i us h v [] = tt
  up_long i us h v (zero ∷ bs) = up_long i us h (suc v) bs
  up_long i us h v (suc k ∷ bs) =
      meet_long (over q i v (get_or us k none)) (up_node q i us (suc v) bs) (over_long i v (get_or us k none) (each_at (Long q) us k none tt h)) (up_long i us h (suc v) bs)

  ups_long : (i : ℕ) (a : Arcs) (j : ℕ) → Each (Long q) (get_or (ups q i a) j [])
  ups_long i [] zero = (length-map q.rules (λ r. (pos 0, pos 0)), tt)
  ups_long i [] (suc j) = tt
  ups_long i (l ∷ ls) zero = let us = get_or (ups q (suc i) ls) 0 [] in each_made (Long q) (up_node q i us 0) (up_long i us (ups_long (suc i) ls 0) 0) l
  ups_long i (l ∷ ls) (suc j) = ups_long (suc i) ls j

  node_long : (i k : ℕ) (d : Numbers) → Long q d → (v : ℕ) (bs : List ℕ) → Long q (down_node q i k d v bs)
  node_long i k d f v [] = tt
  node_long i k d f v (b ∷ bs) = go (eqb b (suc k)) (node_long i k d f (suc v) bs)
    where
      go : (t : Bool) → Long q (down_node q i k d (suc v) bs) → Long q (cond t (meet (over q i v d) (down_node q i k d (suc v) bs)) (down_node q i k d (suc v) bs))
      go true r = meet_long (over q i v d) (down_node q i k d (suc v) bs) (over_long i v d f) r
      go false r = r

  down_long : (i k : ℕ) (ds : List Numbers) → Each (Long q) ds → (l : List (List ℕ)) → Long q (down_at q i k ds l)
  down_long i k [] f l = tt
  down_long i k (d ∷ ds) f [] = tt
  down_long i k (d ∷ ds) f (bs ∷ l) = meet_long (down_node q i k d 0 bs) (down_at q i k ds l) (node_long i k d f.0 0 bs) (down_long i k ds f.1 l)

  downs_long : (i : ℕ) (ds : List Numbers) → Each (Long q) ds → (a : Arcs) (j : ℕ) → Each (Long q) (get_or (downs q i ds a) j [])
  downs_long i ds f [] zero = f
  downs_long i ds f [] (suc j) = tt
  downs_long i ds f (l ∷ ls) zero = f
  downs_long i ds f (l ∷ ls) (suc j) =
      let at : ℕ → Numbers = λ k. down_at q i k ds l in
      downs_long (suc i) (next_downs q i ds l ls) (each_made (Long q) at (λ k. down_long i k ds f l) (from 0 (node_count ls))) ls j

-- ---- the numbers of node j of layer i
module _ (q : Campaign) (a : Arcs) where
  abbrev pub down_of : ℕ → ℕ → Numbers
  down_of i j = get_or (downs_at q a i) j none

  abbrev pub up_of : ℕ → ℕ → Numbers
  up_of i j = get_or (ups_at q a i) j none

  down_has : (i j : ℕ) → Long q (down_of i j)
  down_has i j = each_at (Long q) (downs_at q a i) j none tt (downs_long q 0 (begins q ∷ []) (length-map q.rules (λ r. (r.start, r.start)), tt) a i)

  up_has : (i j : ℕ) → Long q (up_of i j)
  up_has i j = each_at (Long q) (ups_at q a i) j none tt (ups_long q 0 a i)

-- ---- the cells of a node that is present
-- no pair
abbrev pub origin : Pair
origin = (pos 0, pos 0)

-- the third and the fourth of a rule's cells
module _ (rest : List ℤ) where
  low_third : (d u : State) (r : ℕ) → length u ≡ length d → r < length d → get_or (pair_cells d u ++ rest) (suc (suc (4 * r))) (pos 0) ≡ (get_or u r origin).0
  low_third [] u r e h = absurd (omega arith)
  low_third (p ∷ d) [] r e h = absurd (omega arith)
  low_third (p ∷ d) (o ∷ u) zero e h = refl
  low_third (p ∷ d) (o ∷ u) (suc r) e h = let on : 4 * suc r ≡ suc (suc (suc (suc (4 * r)))) = omega arith in rw on (low_third d u r (omega arith) (omega arith))

  high_fourth : (d u : State) (r : ℕ) → length u ≡ length d → r < length d → get_or (pair_cells d u ++ rest) (suc (suc (suc (4 * r)))) (pos 0) ≡ (get_or u r origin).1
  high_fourth [] u r e h = absurd (omega arith)
  high_fourth (p ∷ d) [] r e h = absurd (omega arith)
  high_fourth (p ∷ d) (o ∷ u) zero e h = refl
  high_fourth (p ∷ d) (o ∷ u) (suc r) e h = let on : 4 * suc r ≡ suc (suc (suc (suc (4 * r)))) = omega arith in rw on (high_fourth d u r (omega arith) (omega arith))

cells_long : (q : Campaign) (d u : Numbers) → Long q d → Long q u → length (node_cells (node_need q) d u) ≡ node_need q
cells_long q none u f g = length-replicate (node_need q) (pos 0)
cells_long q (some d) none f g = length-replicate (node_need q) (pos 0)
cells_long q (some d) (some u) f g = omega (arith, pairs_long d.0 u.0 (g ∙ sym f), length-append (pair_cells d.0 u.0) (d.1 ∷ u.1 ∷ []))

pub celled : (q : Campaign) (a : Arcs) (i j : ℕ) → length (node_cells (node_need q) (down_of q a i j) (up_of q a i j)) ≡ node_need q
celled q a i j = cells_long q (down_of q a i j) (up_of q a i j) (down_has q a i j) (up_has q a i j)

module _ (q : Campaign) (a : Arcs) (w i j : ℕ) (h : i ≤ length a) (b : j < w) {d u : State × ℤ} (e : down_of q a i j ≡ some d) (f : up_of q a i j ≡ some u) where
  abbrev cells : List ℤ
  cells = all_cells (node_need q) w (down_numbers q a) (up_numbers q a)

  cell_at : (v : ℕ) → v < node_need q → get_or cells ((i * w + j) * node_need q + v) (pos 0) ≡ get_or (node_cells (node_need q) (some d) (some u)) v (pos 0)
  cell_at v c =
      let downs = downs_count q 0 (begins q ∷ []) a in
      node_cell (node_need q) w (down_numbers q a) (up_numbers q a) (ups_count q 0 a ∙ sym downs) (celled q a) i j v (omega arith) b c
      ∙ (λ t. get_or (node_cells (node_need q) (e t) (f t)) v (pos 0))

  down_pairs : length d.0 ≡ length q.rules
  down_pairs = subst (Long q) e (down_has q a i j)

  up_pairs : length u.0 ≡ length d.0
  up_pairs = subst (Long q) f (up_has q a i j) ∙ sym down_pairs

  -- rule r's low up and high up, and the cost up
  pub low_up : (r : ℕ) → r < length q.rules → get_or cells ((i * w + j) * node_need q + 4 * r + 3) (pos 0) ≡ (get_or u.0 r origin).0
  low_up r c =
      let at = (i * w + j) * node_need q in
      let place : at + 4 * r + 3 ≡ at + suc (suc (suc (4 * r))) = omega arith in
      rw place (cell_at (suc (suc (suc (4 * r)))) (omega arith) ∙ low_third (d.1 ∷ u.1 ∷ []) d.0 u.0 r up_pairs (omega (arith, down_pairs)))

  pub high_up : (r : ℕ) → r < length q.rules → get_or cells ((i * w + j) * node_need q + 4 * r + 4) (pos 0) ≡ (get_or u.0 r origin).1
  high_up r c =
      let at = (i * w + j) * node_need q in
      let place : at + 4 * r + 4 ≡ at + suc (suc (suc (suc (4 * r)))) = omega arith in
      rw place (cell_at (suc (suc (suc (suc (4 * r))))) (omega arith) ∙ high_fourth (d.1 ∷ u.1 ∷ []) d.0 u.0 r up_pairs (omega (arith, down_pairs)))

  pub cost_up : get_or cells ((i * w + j) * node_need q + 4 * length q.rules + 2) (pos 0) ≡ u.1
  cost_up =
      let at = (i * w + j) * node_need q in
      let m = length q.rules in
      let long = pairs_long d.0 u.0 up_pairs in
      let place : at + 4 * m + 2 ≡ at + (4 * m + 2) = omega arith in
      let behind : 4 * m + 2 ≡ suc (length (pair_cells d.0 u.0) + 1) = omega (arith, down_pairs) in
      let own : get_or (node_cells (node_need q) (some d) (some u)) (4 * m + 2) (pos 0) ≡ u.1 = rw behind (get_or-append-add (pair_cells d.0 u.0) (d.1 ∷ u.1 ∷ []) 1 (pos 0)) in
      rw place (cell_at (4 * m + 2) (omega arith) ∙ own)
