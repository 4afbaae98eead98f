-- Do the passes over a layer's rows and cells leave the bytes and the cells that its numbers say?
use mathlib.Core.Path.{◌≡◌, refl, sym, ap, ◌∙◌}
use mathlib.Core.List.{List, [], ◌∷◌, map}
use mathlib.Core.Bool.{Bool, false, cond}
use mathlib.Core.Option.{none, some}
use Prim.Native.Nat.{ℕ, zero, suc, ◌+◌, ◌*◌, ◌≤◌, ◌<◌}
use native.Mathlib.Omega.{arith}
use lib.ListN.{length, get_or, replicate, get_or-replicate}
use lib.IntN.{ℤ, pos, neg_ℤ, ◌-ℤ◌}
use Rattle.laws.specs.Z.{eq_z}
use Rattle.laws.specs.Lists.{from, padded}
use Rattle.laws.proofs.Lists.{cond_second}
use Rattle.laws.proofs.Filled.{length-padded, map_places}
use Rattle.laws.proofs.Each.{Each, each_at}
use Rattle.meaning.specs.Plan.{Campaign}
use Rattle.meaning.specs.Filter.{Numbers, up_node, each_parent, test_arc}
use Rattle.meaning.specs.Buffers.{layer_cells as cells_of}
use Rattle.lent.specs.Lanes.{zipped, lanes_at}
use Rattle.lent.specs.Passes.{Bytes, raise_layer, raise_node, nowhere, node_lanes, down_lanes, room_lanes, down_cells, up_cells, test_layer, layer_cells}
use Rattle.lent.specs.Vec.{vec, slot_vec, row_vec, test_of, limit_vec}
use Rattle.lent.specs.Small.{Small, Fit}
use Rattle.lent.proofs.Fit.{up_fit}
use Rattle.lent.proofs.Lanes.{padded_at}
use Rattle.lent.proofs.Vec.{row_at, far_some}
use Rattle.lent.proofs.Ups.{room_vec, node_raises, node_tests}
use Rattle.lent.proofs.Cells.{node_cells_lem, down_lanes_lem}

-- a list that is filled up, by places
pub padded_places : {A : Type 0} (n : ℕ) (z : A) (l : List A) → padded n z l ≡ map (λ j. get_or l j z) (from 0 n)
padded_places n z l =
    sym (rw (length-padded z n l) at (map_places (λ j. get_or l j z) (padded n z l) z (λ j h. sym (padded_at n z l j (rw (length-padded z n l) at h)))))

-- two lists with equal heads and equal tails
cons_both : {A : Type 0} {x y : A} {l m : List A} → x ≡ y → l ≡ m → x ∷ l ≡ y ∷ m
cons_both {l = l} {m = m} e f = rw (e, f) refl

-- what is read of the cells of node j, while only its down numbers are known
pub reads_down : (q : Campaign) → Small q → (h : ℕ) → h ≤ 24 → (ds : List Numbers) → Each (Fit q h) ds → (j : ℕ) → j < 16
    → down_lanes (length q.rules) (down_cells (length q.rules) (row_vec ds) j) ≡ vec (get_or ds j none)
reads_down q s h few ds f j l =
    let m = length q.rules in
    ap (λ (d : List ℤ). down_lanes m (node_lanes m d (replicate 17 (pos 0)))) (row_at ds j l) ∙ down_lanes_lem q s h few (get_or ds j none) (each_at (Fit q h) ds j none tt f)

-- the room that is reckoned from such cells
room_there : (m : ℕ) (free : Bool) (limit c : List ℤ) {d : List ℤ} → eq_z (get_or c 0 (pos 0)) (pos 0) ≡ false → down_lanes m c ≡ d
    → room_lanes m free limit c ≡ cond free (replicate 17 (pos 4000000)) (zipped ◌-ℤ◌ limit d)
room_there m free limit c e f =
    cond_second (eq_z (get_or c 0 (pos 0)) (pos 0)) (replicate 17 (neg_ℤ (pos 4000000))) (cond free (replicate 17 (pos 4000000)) (zipped ◌-ℤ◌ limit (down_lanes m c))) e
    ∙ ap (λ (d : List ℤ). cond free (replicate 17 (pos 4000000)) (zipped ◌-ℤ◌ limit d)) f

room_cells : (q : Campaign) → Small q → (h : ℕ) → h ≤ 24 → (free : Bool) (limit : List ℤ) (d : Numbers) → Fit q h d
    → room_lanes (length q.rules) free limit (node_lanes (length q.rules) (vec d) (replicate 17 (pos 0))) ≡ room_vec free limit d
room_cells q s h few free limit none f = rw (get_or-replicate (4 * length q.rules + 3) 0 (pos 0) (pos 0) (omega arith)) refl
room_cells q s h few free limit (some a) f =
    let m = length q.rules in
    room_there m free limit (node_lanes m (vec (some a)) (replicate 17 (pos 0))) (rw (far_some q h few a f) refl) (down_lanes_lem q s h few (some a) f)

reads_room : (q : Campaign) → Small q → (h : ℕ) → h ≤ 24 → (free : Bool) (limit : List ℤ) (ds : List Numbers) → Each (Fit q h) ds → (j : ℕ) → j < 16
    → room_lanes (length q.rules) free limit (down_cells (length q.rules) (row_vec ds) j) ≡ room_vec free limit (get_or ds j none)
reads_room q s h few free limit ds f j l =
    let m = length q.rules in
    ap (λ (d : List ℤ). room_lanes m free limit (node_lanes m d (replicate 17 (pos 0)))) (row_at ds j l) ∙ room_cells q s h few free limit (get_or ds j none) (each_at (Fit q h) ds j none tt f)

-- ---- the up numbers over slot i, ahead of k slots
pub layer_raises : (q : Campaign) → Small q → (i k : ℕ) → k < 24 → (us : List Numbers) → Each (Fit q k) us → (l : List (List ℕ)) → Each (λ bs. length bs ≤ 8) l → Each Bytes l
    → raise_layer (slot_vec q i) (row_vec us) l ≡ map (λ bs. vec (up_node q i us 0 bs)) l
layer_raises q s i k few us g [] w b = refl
layer_raises q s i k few us g (bs ∷ l) w b = rw (node_raises q s i k (suc k) (omega arith) few us g bs w.0 b.0, layer_raises q s i k few us g l w.1 b.1)

-- slot i, behind h slots and ahead of k; ds has the layer's down numbers, us the next one's up numbers
module _ (q : Campaign) (s : Small q) (i h k : ℕ) (few : h + 1 + k ≤ 24) (ds us : List Numbers) (f : Each (Fit q h) ds) (g : Each (Fit q k) us) where
  -- ---- the bytes that remain
  module _ (free : Bool) (c : ℤ) where
    tests_from : (j : ℕ) (l : List (List ℕ)) → j + length l ≤ 16 → Each (λ bs. length bs ≤ 8) l → Each Bytes l
        → test_layer (slot_vec q i) (row_vec us) l (map (room_lanes (length q.rules) free (limit_vec c q)) (map (down_cells (length q.rules) (row_vec ds)) (from j (length l))))
        ≡ each_parent (test_arc (test_of free c) q i us) (map (λ j. get_or ds j none) (from j (length l))) l
    tests_from j [] r w b = refl
    tests_from j (bs ∷ l) r w b =
        let d = get_or ds j none in
        rw (reads_room q s h (omega arith) free (limit_vec c q) ds f j (omega arith), node_tests q s i h k few free c us g d (each_at (Fit q h) ds j none tt f) bs w.0 b.0, tests_from (suc j) l (omega arith) w.1 b.1)

    pub layer_tests : (w : ℕ) → w ≤ 16 → (l : List (List ℕ)) → length l ≡ w → Each (λ bs. length bs ≤ 8) l → Each Bytes l
        → test_layer (slot_vec q i) (row_vec us) l (map (room_lanes (length q.rules) free (limit_vec c q)) (map (down_cells (length q.rules) (row_vec ds)) (from 0 w)))
        ≡ each_parent (test_arc (test_of free c) q i us) (padded w none ds) l
    layer_tests w r l n a b = rw (padded_places w none ds, ← n) (tests_from 0 l (omega arith) a b)

  -- ---- the cells
  cells_from : (j : ℕ) (l : List (List ℕ)) → j + length l ≤ 16 → Each (λ bs. length bs ≤ 8) l → Each Bytes l
      → layer_cells (slot_vec q i) (row_vec us) (length q.rules) l (map (down_cells (length q.rules) (row_vec ds)) (from j (length l)))
      ≡ cells_of (4 * length q.rules + 3) (map (λ j. get_or ds j none) (from j (length l))) (map (up_node q i us 0) l)
  cells_from j [] r w b = refl
  cells_from j (bs ∷ l) r w b =
      let d = get_or ds j none in
      let u = up_node q i us 0 bs in
      let cells = node_cells_lem q s h (suc k) (omega arith) (omega arith) d u (each_at (Fit q h) ds j none tt f) (up_fit q s k (suc k) (omega arith) i us g bs w.0) in
      let m = length q.rules in
      let up = raise_node (slot_vec q i) (row_vec us) 0 bs nowhere in
      cons_both (ap (λ (x : List ℤ). node_lanes m x up) (reads_down q s h (omega arith) ds f j (omega arith)) ∙ ap (node_lanes m (vec d)) (node_raises q s i k (suc k) (omega arith) (omega arith) us g bs w.0 b.0) ∙ cells)
      (cells_from (suc j) l (omega arith) w.1 b.1)

  pub layer_cells_lem : (w : ℕ) → w ≤ 16 → (l : List (List ℕ)) → length l ≡ w → Each (λ bs. length bs ≤ 8) l → Each Bytes l
      → layer_cells (slot_vec q i) (row_vec us) (length q.rules) l (map (down_cells (length q.rules) (row_vec ds)) (from 0 w))
      ≡ cells_of (4 * length q.rules + 3) (padded w none ds) (map (up_node q i us 0) l)
  layer_cells_lem w r l n a b = rw (padded_places w none ds, ← n) (cells_from 0 l (omega arith) a b)

-- ---- the cells of a layer whose up numbers stand in a row
module _ (q : Campaign) (s : Small q) (h k : ℕ) (less : h ≤ 24) (few : k ≤ 24) (ds us : List Numbers) (f : Each (Fit q h) ds) (g : Each (Fit q k) us) where
  row_cells_from : (j n : ℕ) → j + n ≤ 16
      → up_cells (length q.rules) (row_vec us) j (map (down_cells (length q.rules) (row_vec ds)) (from j n))
      ≡ cells_of (4 * length q.rules + 3) (map (λ j. get_or ds j none) (from j n)) (map (λ j. get_or us j none) (from j n))
  row_cells_from j zero r = refl
  row_cells_from j (suc n) r =
      let d = get_or ds j none in
      let u = get_or us j none in
      let cells = node_cells_lem q s h k less few d u (each_at (Fit q h) ds j none tt f) (each_at (Fit q k) us j none tt g) in
      let m = length q.rules in
      let up = lanes_at (row_vec us) (j * 17) in
      cons_both (ap (λ (x : List ℤ). node_lanes m x up) (reads_down q s h less ds f j (omega arith)) ∙ ap (node_lanes m (vec d)) (row_at us j (omega arith)) ∙ cells)
      (row_cells_from (suc j) n (omega arith))

  pub row_cells : (w : ℕ) → w ≤ 16
      → up_cells (length q.rules) (row_vec us) 0 (map (down_cells (length q.rules) (row_vec ds)) (from 0 w))
      ≡ cells_of (4 * length q.rules + 3) (padded w none ds) (padded w none us)
  row_cells w r = rw (padded_places w none ds, padded_places w none us) (row_cells_from 0 w (omega arith))
