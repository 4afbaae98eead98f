-- What are the rows, cells and bytes of a whole diagram, layer by layer?
use mathlib.Core.Path.{◌≡◌, refl, sym, ◌∙◌, ap}
use mathlib.Core.List.{List, [], ◌∷◌, ◌++◌, map, tail}
use mathlib.Core.Bool.{Bool, true, false, ◌||◌, cond}
use mathlib.Core.Option.{none}
use Prim.Native.Nat.{ℕ, zero, suc, ◌+◌, ◌*◌, ◌-◌, ◌≤◌, ◌<◌}
use native.Mathlib.Omega.{arith}
use native.Mathlib.Nat.{zero-add, suc-mul}
use native.Mathlib.Numerals.{add-one}
use native.Mathlib.Decide.{dec_lt}
use borrow.Author.Tests.{ne_eqb}
use lib.Dec.{leb}
use lib.ListN.{length, get_or, take, drop, replicate, length-map, length-append, length-replicate, length-drop, get_or-eq_default, drop_of_length-le}
use lib.Seq.{length-take-le, drop-cons, get_or-drop, take_at, drop_at}
use lib.IntN.{ℤ, pos, neg_ℤ}
use Rattle.laws.specs.Z.{Within}
use Rattle.laws.specs.Lists.{every, flat, gather, from, padded, parted}
use Rattle.laws.proofs.Lists.{and_l, and_r, length_from, get_or_map}
use Rattle.laws.proofs.Parts.{length_fields}
use Rattle.laws.proofs.Filled.{length_rows, length-padded, get_or-parted, get_or-padded, padded_full}
use Rattle.laws.proofs.Each.{Each, each_at, each_more, each_from, each_gather, each_map}
use Rattle.meaning.specs.Plan.{Campaign}
use Rattle.meaning.specs.Diagram.{Arcs}
use Rattle.meaning.specs.Filter.{Numbers, zeros, begins, up_node, ups, down_node, down_at, node_count, downs, down_numbers, up_numbers, each_step, each_parent, each_slot, Test, test_arc, drops}
use Rattle.meaning.specs.Buffers.{node_need, node_cells, layer_cells as cells_of, all_cells, of_form}
use Rattle.lent.specs.Wide.{laid}
use Rattle.lent.specs.Lanes.{lanes_at}
use Rattle.lent.specs.Passes.{Row, Bytes, HalfNode, HalfCells, far, bring_layer, raise_layer, node_lanes, down_lanes, room_lanes, down_cells, up_cells, test_layer, layer_cells}
use Rattle.lent.specs.Vec.{vec, slot_vec, row_vec, test_of, limit_vec}
use Rattle.lent.specs.Small.{Small, Fit, FewBytes}
use Rattle.lent.proofs.Places.{padded_same, made_at, no_number_tested, next_downs, cells_none}
use Rattle.lent.proofs.Shape.{true_low}
use Rattle.lent.proofs.Fit.{zeros_fit, downs_fit, ups_fit}
use Rattle.lent.proofs.Vec.{row_at, row_vec_lem, row_own, row_behind}
use Rattle.lent.proofs.Downs.{layer_brings}
use Rattle.lent.proofs.Cells.{zeros_vec, node_cells_lem, cells_within}
use Rattle.lent.proofs.Pass.{padded_places, reads_down, layer_raises, layer_tests, layer_cells_lem, row_cells}

-- ---- lists
module _ {A B : Type 0} where
  flat_map : (g : A → List B) (l : List A) → flat (map g l) ≡ gather g l
  flat_map g [] = refl
  flat_map g (x ∷ l) = ap (λ (r : List B). g x ++ r) (flat_map g l)

  gather-map : {C : Type 0} (g : B → List C) (f : A → B) (l : List A) → gather g (map f l) ≡ gather (λ x. g (f x)) l
  gather-map g f [] = refl
  gather-map {C} g f (x ∷ l) = ap (λ (r : List C). g (f x) ++ r) (gather-map g f l)

pub gather_below : {B : Type 0} (g h : ℕ → List B) (n : ℕ) → ((j : ℕ) → j < n → g j ≡ h j) → (i k : ℕ) → i + k ≤ n → gather g (from i k) ≡ gather h (from i k)
gather_below g h n e i zero l = refl
gather_below g h n e i (suc k) l = rw (e i (omega arith), gather_below g h n e (suc i) k (omega arith))

-- rows of k elements each, one behind the other, and cut again
rows_parted : {A B : Type 0} (g : A → List B) (k : ℕ) → ((x : A) → length (g x) ≡ k) → (l : List A) → parted (length l) k (gather g l) ≡ map g l
rows_parted g k wide [] = refl
rows_parted g k wide (x ∷ l) = rw (take_at (g x) (gather g l) k (wide x), drop_at (g x) (gather g l) k (wide x), rows_parted g k wide l)

-- blocks by their places: what x makes of each layer, from layer i on
flat_blocks : {A B : Type 0} (g : A → List B) (d : A) (x : ℕ → List B) (l : List A) (i n : ℕ) → i + n ≡ length l → ((j : ℕ) → j < length l → g (get_or l j d) ≡ x j)
    → flat (map g (drop i l)) ≡ gather x (from i n)
flat_blocks g d x l i zero e h = rw (drop_of_length-le l {i = i} (omega arith)) refl
flat_blocks g d x l i (suc n) e h = rw (drop-cons l i d (omega arith), h i (omega arith), flat_blocks g d x l (suc i) n (omega arith) h)

pub tail-drop : {A : Type 0} (i : ℕ) (l : List A) → tail (drop i l) ≡ drop (suc i) l
tail-drop zero [] = refl
tail-drop (suc i) [] = refl
tail-drop zero (x ∷ l) = refl
tail-drop (suc i) (x ∷ l) = tail-drop i l

-- ---- the numbers of each layer
abbrev pub downs_at : Campaign → Arcs → ℕ → List Numbers
downs_at q a i = get_or (down_numbers q a) i []

abbrev pub ups_at : Campaign → Arcs → ℕ → List Numbers
ups_at q a i = get_or (up_numbers q a) i []

module _ (q : Campaign) where
  pub downs_count : (i : ℕ) (ds : List Numbers) (a : Arcs) → length (downs q i ds a) ≡ suc (length a)
  downs_count i ds [] = refl
  downs_count i ds (l ∷ ls) = ap suc (downs_count (suc i) (next_downs q i ds l ls) ls)

  pub ups_count : (i : ℕ) (a : Arcs) → length (ups q i a) ≡ suc (length a)
  ups_count i [] = refl
  ups_count i (l ∷ ls) = ap suc (ups_count (suc i) ls)

  downs_first : (i : ℕ) (ds : List Numbers) (a : Arcs) → get_or (downs q i ds a) 0 [] ≡ ds
  downs_first i ds [] = refl
  downs_first i ds (l ∷ ls) = refl

  downs_next : (i : ℕ) (ds : List Numbers) (a : Arcs) (j : ℕ) → j < length a
      → get_or (downs q i ds a) (suc j) [] ≡ next_downs q (i + j) (get_or (downs q i ds a) j []) (get_or a j []) (drop (suc j) a)
  downs_next i ds [] j h = absurd (omega arith)
  downs_next i ds (l ∷ ls) zero h = let o : i + 0 ≡ i = omega arith in rw o (downs_first (suc i) (next_downs q i ds l ls) ls)
  downs_next i ds (l ∷ ls) (suc j) h = let o : i + suc j ≡ suc i + j = omega arith in rw o (downs_next (suc i) (next_downs q i ds l ls) ls j (omega arith))

  ups_next : (i : ℕ) (a : Arcs) (j : ℕ) → j < length a → get_or (ups q i a) j [] ≡ map (up_node q (i + j) (get_or (ups q i a) (suc j) []) 0) (get_or a j [])
  ups_next i [] j h = absurd (omega arith)
  ups_next i (l ∷ ls) zero h = let o : i + 0 ≡ i = omega arith in rw o refl
  ups_next i (l ∷ ls) (suc j) h = let o : i + suc j ≡ suc i + j = omega arith in rw o (ups_next (suc i) ls j (omega arith))

  ups_last : (i : ℕ) (a : Arcs) → get_or (ups q i a) (length a) [] ≡ zeros q ∷ []
  ups_last i [] = refl
  ups_last i (l ∷ ls) = ups_last (suc i) ls

  pub down_first : (a : Arcs) → downs_at q a 0 ≡ begins q ∷ []
  down_first a = downs_first 0 (begins q ∷ []) a

  pub down_next : (a : Arcs) (j : ℕ) → j < length a → downs_at q a (suc j) ≡ next_downs q j (downs_at q a j) (get_or a j []) (drop (suc j) a)
  down_next a j h = rw (zero-add j) at (downs_next 0 (begins q ∷ []) a j h)

  up_next : (a : Arcs) (j : ℕ) → j < length a → ups_at q a j ≡ map (up_node q j (ups_at q a (suc j)) 0) (get_or a j [])
  up_next a j h = rw (zero-add j) at (ups_next 0 a j h)

  pub up_last : (a : Arcs) → ups_at q a (length a) ≡ zeros q ∷ []
  up_last a = ups_last 0 a

-- ---- the form of a layer in a buffer: w nodes of 8 bytes, none of which leads past the next layer's nodes
pub record Full (w : ℕ) (a : Arcs) (j : ℕ) : Type 0 where
  pub long : length (get_or a j []) ≡ w
  pub bytes : Each (λ bs. length bs ≡ 8) (get_or a j [])
  pub leads : Each (Each (λ b. b ≤ node_count (drop (suc j) a))) (get_or a j [])
  pub most : node_count (drop (suc j) a) ≤ 16

-- every layer has it
pub record Whole (w : ℕ) (a : Arcs) : Type 0 where
  pub wide : w ≤ 16
  pub long : length a ≤ 24
  pub few : FewBytes a
  pub full : (j : ℕ) → j < length a → Full w a j

-- ---- no number comes where no byte leads
module _ (q : Campaign) (i : ℕ) where
  no_byte : (p c : ℕ) → c ≤ p → (d : Numbers) (v : ℕ) (bs : List ℕ) → Each (λ b. b ≤ c) bs → down_node q i p d v bs ≡ none
  no_byte p c h d v [] l = refl
  no_byte p c h d v (b ∷ bs) l = let low = l.0 in rw (ne_eqb b (suc p) (λ e. omega arith)) (no_byte p c h d (suc v) bs l.1)

  no_way : (p c : ℕ) → c ≤ p → (ds : List Numbers) (l : List (List ℕ)) → Each (Each (λ b. b ≤ c)) l → down_at q i p ds l ≡ none
  no_way p c h [] l b = refl
  no_way p c h (d ∷ ds) [] b = refl
  no_way p c h (d ∷ ds) (bs ∷ l) b = rw (no_byte p c h d 0 bs b.0) (no_way p c h ds l b.1)

  -- so the row has those of the next layer's own places
  places_row : (c : ℕ) → c ≤ 16 → (ds : List Numbers) (l : List (List ℕ)) → Each (Each (λ b. b ≤ c)) l
      → row_vec (map (λ p. down_at q i p ds l) (from 0 16)) ≡ row_vec (map (λ p. down_at q i p ds l) (from 0 c))
  places_row c few ds l b = ap (gather vec) (padded_same 16 none (map at (from 0 16)) (map at (from 0 c)) same)
    where
      at : ℕ → Numbers
      at p = down_at q i p ds l

      own : (n j : ℕ) → n ≤ j → get_or (map at (from 0 n)) j none ≡ none
      own n j h = get_or-eq_default (map at (from 0 n)) none {n = j} (omega (arith, length-map (from 0 n) at, length_from 0 n))

      same : (j : ℕ) → get_or (map at (from 0 16)) j none ≡ get_or (map at (from 0 c)) j none
      same j = elim (dec_lt j c) [
        | yes h ↦ made_at at 16 j none (omega arith) ∙ sym (made_at at c j none h)
        | no h ↦ elim (dec_lt j 16) [
          | yes k ↦ made_at at 16 j none k ∙ no_way j c (omega arith) ds l b ∙ sym (own c j (omega arith))
          | no k ↦ own 16 j (omega arith) ∙ sym (own c j (omega arith))
        ]
      ]

-- ---- the cells of a layer, filled up: those of its places
cells_empty : (k : ℕ) (ds : List Numbers) → cells_of k ds [] ≡ []
cells_empty k [] = refl
cells_empty k (d ∷ ds) = refl

cells_padded : (k w : ℕ) (ds us : List Numbers) → padded w (replicate k (pos 0)) (cells_of k ds us) ≡ cells_of k (padded w none ds) (padded w none us)
cells_padded k zero ds us = refl
cells_padded k (suc w) [] [] = ap (λ (r : List (List ℤ)). replicate k (pos 0) ∷ r) (cells_padded k w [] [])
cells_padded k (suc w) [] (u ∷ us) = ap (λ (r : List (List ℤ)). replicate k (pos 0) ∷ r) (cells_padded k w [] us)
cells_padded k (suc w) (d ∷ ds) [] = rw (cells_none k d) (ap (λ (r : List (List ℤ)). replicate k (pos 0) ∷ r) (ap (padded w (replicate k (pos 0))) (sym (cells_empty k ds)) ∙ cells_padded k w ds []))
cells_padded k (suc w) (d ∷ ds) (u ∷ us) = ap (λ (r : List (List ℤ)). node_cells k d u ∷ r) (cells_padded k w ds us)

-- ---- the bytes of a layer, filled up: a parent without a number has none left
parents_none : (f : Numbers → ℕ → ℕ → ℕ) (l : List (List ℕ)) → each_parent f [] l ≡ []
parents_none f [] = refl
parents_none f (bs ∷ l) = refl

parents_padded : (e : Test) (q : Campaign) (i : ℕ) (us ds : List Numbers) (l : List (List ℕ)) → Each (λ bs. length bs ≡ 8) l
    → padded (length l) (replicate 8 0) (each_parent (test_arc e q i us) ds l) ≡ each_parent (test_arc e q i us) (padded (length l) none ds) l
parents_padded e q i us ds [] h = refl
parents_padded e q i us [] (bs ∷ l) h =
    let f = test_arc e q i us in
    let first : each_step (f none) 0 bs ≡ replicate 8 0 = no_number_tested q i e us 0 bs ∙ ap (λ (n : ℕ). replicate n 0) h.0 in
    rw first (ap (λ (r : List (List ℕ)). replicate 8 0 ∷ r) (ap (padded (length l) (replicate 8 0)) (sym (parents_none f l)) ∙ parents_padded e q i us [] l h.1))
parents_padded e q i us (d ∷ ds) (bs ∷ l) h = ap (λ (r : List (List ℕ)). each_step (test_arc e q i us d) 0 bs ∷ r) (parents_padded e q i us ds l h.1)

-- ---- the lanes of a node make 4m + 3 cells
pub node_long : (m : ℕ) (d u : List ℤ) → length (node_lanes m d u) ≡ 4 * m + 3
node_long m d u = go (far d || far u)
  where
    lane : ℕ → List ℤ
    lane r = get_or d r (pos 0) ∷ neg_ℤ (get_or d (8 + r) (pos 0)) ∷ get_or u r (pos 0) ∷ neg_ℤ (get_or u (8 + r) (pos 0)) ∷ []

    go : (t : Bool) → length (cond t (replicate (4 * m + 3) (pos 0)) (pos 1 ∷ gather lane (from 0 m) ++ (get_or d 16 (pos 0) ∷ get_or u 16 (pos 0) ∷ []))) ≡ 4 * m + 3
    go true = length-replicate (4 * m + 3) (pos 0)
    go false =
        let rules = length_rows lane 4 (λ r. refl) (from 0 m) in
        omega (arith, length-append (gather lane (from 0 m)) (get_or d 16 (pos 0) ∷ get_or u 16 (pos 0) ∷ []), length_from 0 m)

-- ---- the blocks of a diagram: of each layer the cells between the passes, the cells behind them, and the bytes that remain
abbrev pub half_block : Campaign → ℕ → Arcs → ℕ → List ℤ
half_block q w a i = flat (map (down_cells (length q.rules) (row_vec (downs_at q a i))) (from 0 w))

abbrev pub cell_block : Campaign → ℕ → Arcs → ℕ → List ℤ
cell_block q w a i = flat (cells_of (node_need q) (padded w none (downs_at q a i)) (padded w none (ups_at q a i)))

abbrev pub byte_block : Test → Campaign → ℕ → Arcs → ℕ → List ℕ
byte_block e q w a i = flat (each_parent (test_arc e q i (ups_at q a (suc i))) (padded w none (downs_at q a i)) (get_or a i []))

module _ (q : Campaign) (w : ℕ) (a : Arcs) (i : ℕ) where
  abbrev half_row : ℕ → List ℤ
  half_row j = down_cells (length q.rules) (row_vec (downs_at q a i)) j

  row_long : (j : ℕ) → length (half_row j) ≡ 4 * length q.rules + 3
  row_long j = node_long (length q.rules) (lanes_at (row_vec (downs_at q a i)) (j * 17)) (replicate 17 (pos 0))

  pub half_long : length (half_block q w a i) ≡ w * (4 * length q.rules + 3)
  half_long = ap length (flat_map half_row (from 0 w)) ∙ length_rows half_row (4 * length q.rules + 3) row_long (from 0 w) ∙ ap (λ (n : ℕ). n * (4 * length q.rules + 3)) (length_from 0 w)

  half_parted : parted w (4 * length q.rules + 3) (half_block q w a i) ≡ map half_row (from 0 w)
  half_parted = ap (parted w (4 * length q.rules + 3)) (flat_map half_row (from 0 w)) ∙ rw (length_from 0 w) at (rows_parted half_row (4 * length q.rules + 3) row_long (from 0 w))

-- what g makes of each place, one place on
place_on : {A B : Type 0} (g : A → B) (d : A) (n j : ℕ) (l : List A) → padded (suc n) (g d) (map g (drop j l)) ≡ g (get_or l j d) ∷ padded n (g d) (map g (drop (suc j) l))
place_on g d n zero [] = refl
place_on g d n (suc j) [] = refl
place_on g d n zero (x ∷ l) = refl
place_on g d n (suc j) (x ∷ l) = place_on g d n j l

-- cells by their places, from layer i on
cells_blocks : (k w : ℕ) (ds us : List (List Numbers)) → length us ≡ length ds → (x : ℕ → List ℤ) → ((j : ℕ) → x j ≡ flat (cells_of k (padded w none (get_or ds j [])) (padded w none (get_or us j []))))
    → (i n : ℕ) → i + n ≡ length ds → all_cells k w (drop i ds) (drop i us) ≡ gather x (from i n)
cells_blocks k w ds us e x h i zero b = rw (drop_of_length-le ds {i = i} (omega arith)) refl
cells_blocks k w ds us e x h i (suc n) b =
    rw (drop-cons ds i [] (omega arith), drop-cons us i [] (omega arith), cells_padded k w (get_or ds i []) (get_or us i []), h i, cells_blocks k w ds us e x h (suc i) n (omega arith))

-- so the bytes that remain
bytes_blocks : (e : Test) (q : Campaign) (w : ℕ) (ds us : List (List Numbers)) (a : Arcs) → length ds ≡ suc (length a) → (x : ℕ → List ℕ)
    → ((j : ℕ) → j < length a → x j ≡ flat (padded w (replicate 8 0) (each_parent (test_arc e q j (get_or us (suc j) [])) (get_or ds j []) (get_or a j []))))
    → (i n : ℕ) → i + n ≡ length a → laid 8 w (each_slot (test_arc e q) i (drop i ds) (drop i us) (drop i a)) ≡ gather x (from i n)
bytes_blocks e q w ds us a c x h i zero b = rw (drop_of_length-le a {i = i} (omega arith)) refl
bytes_blocks e q w ds us a c x h i (suc n) b =
    let next : get_or (drop i us) 1 [] ≡ get_or us (suc i) [] = get_or-drop i us 1 [] ∙ ap (λ (k : ℕ). get_or us k []) (add-one i) in
    rw (drop-cons ds i [] (omega arith), drop-cons a i [] (omega arith), next, tail-drop i us, h i (omega arith), bytes_blocks e q w ds us a c x h (suc i) n (omega arith))

module _ (q : Campaign) (s : Small q) (w : ℕ) (a : Arcs) (f : Whole w a) where
  down_fits : (i : ℕ) → Each (Fit q i) (downs_at q a i)
  down_fits i = downs_fit q s a f.few i

  up_fits : (i : ℕ) → Each (Fit q (length a - i)) (ups_at q a i)
  up_fits i = ups_fit q s a f.few i

  pub down_row : (i : ℕ) → i ≤ length a → Row (row_vec (downs_at q a i))
  down_row i h = row_vec_lem q i (omega (arith, f.long)) (downs_at q a i) (down_fits i)

  pub up_row : (i : ℕ) → Row (row_vec (ups_at q a i))
  up_row i = row_vec_lem q (length a - i) (omega (arith, f.long)) (ups_at q a i) (up_fits i)

  -- ---- the cells between the passes
  half_cells : (i j : ℕ) → i ≤ length a → j < 16 → down_cells (length q.rules) (row_vec (downs_at q a i)) j ≡ node_cells (node_need q) (get_or (downs_at q a i) j none) (zeros q)
  half_cells i j h l =
      let d = get_or (downs_at q a i) j none in
      ap (λ (x : List ℤ). node_lanes (length q.rules) x (replicate 17 (pos 0))) (row_at (downs_at q a i) j l)
      ∙ ap (node_lanes (length q.rules) (vec d)) (sym (zeros_vec q))
      ∙ node_cells_lem q s i 0 (omega (arith, f.long)) (omega arith) d (zeros q) (each_at (Fit q i) (downs_at q a i) j none tt (down_fits i)) (zeros_fit q)

  half_from : (i j n : ℕ) → i ≤ length a → j + n ≤ 16
      → padded n (replicate (node_need q) (pos 0)) (map (λ d. node_cells (node_need q) d (zeros q)) (drop j (downs_at q a i))) ≡ map (down_cells (length q.rules) (row_vec (downs_at q a i))) (from j n)
  half_from i j zero h l = refl
  half_from i j (suc n) h l = rw (half_cells i j h (omega arith)) (place_on (λ d. node_cells (node_need q) d (zeros q)) none n j (downs_at q a i) ∙ ap (λ (r : List (List ℤ)). node_cells (node_need q) (get_or (downs_at q a i) j none) (zeros q) ∷ r) (half_from i (suc j) n h (omega arith)))

  pub half_blocks : flat (map (λ l. flat (padded w (replicate (node_need q) (pos 0)) (map (λ d. node_cells (node_need q) d (zeros q)) l))) (down_numbers q a)) ≡ gather (half_block q w a) (from 0 (suc (length a)))
  half_blocks =
      let long = downs_count q 0 (begins q ∷ []) a in
      flat_blocks (λ (l : List Numbers). flat (padded w (replicate (node_need q) (pos 0)) (map (λ d. node_cells (node_need q) d (zeros q)) l))) [] (half_block q w a) (down_numbers q a) 0 (suc (length a)) (omega arith)
      (λ j h. ap flat (half_from j 0 w (omega arith) (omega (arith, f.wide))))

  half_within : (i : ℕ) → i ≤ length a → Each (Within 4000000) (half_block q w a i)
  half_within i h =
      let g = down_cells (length q.rules) (row_vec (downs_at q a i)) in
      let low = f.wide in
      rw (flat_map g (from 0 w))
      (each_gather (λ j. j < 16) (Within 4000000) g
      (λ j l. rw (half_cells i j h l) (cells_within q s i 0 (omega (arith, f.long)) (omega arith) (node_need q) (get_or (downs_at q a i) j none) (zeros q) (each_at (Fit q i) (downs_at q a i) j none tt (down_fits i)) (zeros_fit q)))
      (from 0 w) (each_from (λ j. j < 16) 0 w (λ j l. omega arith)))

  -- the up numbers are not there yet
  half_node : (i j : ℕ) → i ≤ length a → j < 16 → HalfNode (length q.rules) (half_row q w a i j)
  half_node i j h l =
      let ds = downs_at q a i in
      ap (λ (x : List ℤ). node_lanes (length q.rules) x (replicate 17 (pos 0))) (row_at ds j l ∙ sym (reads_down q s i (omega (arith, f.long)) ds (down_fits i) j l))

  pub half_right : (i : ℕ) → i ≤ length a → HalfCells (length q.rules) w (half_block q w a i)
  half_right i h =
      let wide = f.wide in
      record {
        long = half_long q w a i;
        inside = half_within i h;
        nodes = rw (half_parted q w a i) (each_map (λ j. j < 16) (HalfNode (length q.rules)) (half_row q w a i) (λ j l. half_node i j h l) (from 0 w) (each_from (λ j. j < 16) 0 w (λ j l. omega arith)));
      }

  -- ---- the cells behind them, and the bytes that remain
  pub all_blocks : all_cells (node_need q) w (down_numbers q a) (up_numbers q a) ≡ gather (cell_block q w a) (from 0 (suc (length a)))
  all_blocks =
      let long = downs_count q 0 (begins q ∷ []) a in
      cells_blocks (node_need q) w (down_numbers q a) (up_numbers q a) (ups_count q 0 a ∙ sym long) (cell_block q w a) (λ j. refl) 0 (suc (length a)) (omega arith)

  pub laid_blocks : (e : Test) → laid 8 w (drops e q a) ≡ gather (byte_block e q w a) (from 0 (length a))
  laid_blocks e =
      bytes_blocks e q w (down_numbers q a) (up_numbers q a) a (downs_count q 0 (begins q ∷ []) a) (byte_block e q w a)
      (λ j h. ap flat (sym (rw (f.full j h).long at (parents_padded e q j (ups_at q a (suc j)) (downs_at q a j) (get_or a j []) (f.full j h).bytes)))) 0 (length a) (omega arith)

  -- ---- the turns of the passes
  module _ (i : ℕ) (h : i < length a) where
    abbrev layer : List (List ℕ)
    layer = get_or a i []

    short : Each (λ bs. length bs ≤ 8) layer
    short = each_more (λ bs. length bs ≡ 8) (λ bs. length bs ≤ 8) (λ bs e. omega arith) layer (f.full i h).bytes

    pub low : Each Bytes layer
    low = each_more (Each (λ b. b ≤ node_count (drop (suc i) a))) Bytes (λ bs l. each_more (λ b. b ≤ node_count (drop (suc i) a)) (λ b. b ≤ 16) (λ b k. omega (arith, (f.full i h).most)) bs l) layer (f.full i h).leads

    pub down_turn : bring_layer (slot_vec q i) (row_vec (downs_at q a i)) 0 layer (row_vec []) ≡ row_vec (downs_at q a (suc i))
    down_turn =
        let ds = downs_at q a i in
        layer_brings q s i i (suc i) (omega arith) (omega (arith, f.long)) ds (down_fits i) layer (omega (arith, f.wide, (f.full i h).long)) short low
        ∙ places_row q i (node_count (drop (suc i) a)) (f.full i h).most ds layer (f.full i h).leads
        ∙ ap row_vec (sym (down_next q a i h))

    abbrev next : List Numbers
    next = ups_at q a (suc i)

    own_long : length (ups_at q a i) ≡ w
    own_long = ap length (up_next q a i h) ∙ length-map layer (up_node q i next 0) ∙ (f.full i h).long

    pub up_turn : flat (raise_layer (slot_vec q i) (row_vec next) layer) ++ replicate ((16 - w) * 17) (pos 4000000) ≡ row_vec (ups_at q a i)
    up_turn =
        let u = up_node q i next 0 in
        let rows : flat (raise_layer (slot_vec q i) (row_vec next) layer) ≡ gather vec (ups_at q a i) = ap flat (layer_raises q s i (length a - suc i) (omega (arith, f.long)) next (up_fits (suc i)) layer short low) ∙ flat_map (λ bs. vec (u bs)) layer ∙ sym (gather-map vec u layer) ∙ ap (gather vec) (sym (up_next q a i h)) in
        let behind : replicate ((16 - w) * 17) (pos 4000000) ≡ replicate ((16 - length (ups_at q a i)) * 17) (pos 4000000) = ap (λ (n : ℕ). replicate ((16 - n) * 17) (pos 4000000)) (sym own_long) in
        (λ j. rows j ++ behind j) ∙ sym (row_own (ups_at q a i) (omega (arith, own_long, f.wide)))

    pub test_turn : (free : Bool) (c : ℤ)
        → flat (test_layer (slot_vec q i) (row_vec next) layer (map (room_lanes (length q.rules) free (limit_vec c q)) (parted w (4 * length q.rules + 3) (half_block q w a i)))) ≡ byte_block (test_of free c) q w a i
    test_turn free c =
        rw (half_parted q w a i)
        (ap flat (layer_tests q s i i (length a - suc i) (omega (arith, f.long)) (downs_at q a i) next (down_fits i) (up_fits (suc i)) free c w f.wide layer (f.full i h).long short low))

    pub cell_turn : flat (layer_cells (slot_vec q i) (row_vec next) (length q.rules) layer (parted w (4 * length q.rules + 3) (half_block q w a i))) ≡ cell_block q w a i
    cell_turn =
        let own : map (up_node q i next 0) layer ≡ padded w none (ups_at q a i) = sym (up_next q a i h) ∙ sym (padded_full w none (ups_at q a i) own_long) in
        rw (half_parted q w a i)
        (ap flat (layer_cells_lem q s i i (length a - suc i) (omega (arith, f.long)) (downs_at q a i) next (down_fits i) (up_fits (suc i)) w f.wide layer (f.full i h).long short low
        ∙ ap (cells_of (node_need q) (padded w none (downs_at q a i))) own))

  -- ---- no layer has more nodes than w: neither do rows, nor do bytes lead further
  module _ (some : 1 ≤ w) where
    nodes_few : (j : ℕ) → node_count (drop j a) ≤ w
    nodes_few j = elim (dec_lt j (length a)) [
      | yes h ↦ rw (drop-cons a j [] h) (omega (arith, (f.full j h).long))
      | no h ↦ rw (drop_of_length-le a {i = j} (omega arith)) some
    ]

    downs_few : (i : ℕ) → i ≤ length a → length (downs_at q a i) ≤ w
    downs_few zero h = rw (down_first q a) some
    downs_few (suc j) h =
        let at : ℕ → Numbers = λ k. down_at q j k (downs_at q a j) (get_or a j []) in
        let count = node_count (drop (suc j) a) in
        rw (down_next q a j h) (omega (arith, length-map (from 0 count) at, length_from 0 count, nodes_few (suc j)))

    ups_few : (i : ℕ) → i ≤ length a → length (ups_at q a i) ≤ w
    ups_few i h = elim (dec_lt i (length a)) [
      | yes l ↦ omega (arith, own_long i l)
      | no l ↦ let e : i ≡ length a = omega arith in rw (e, up_last q a) some
    ]

    pub down_behind : (i : ℕ) → i ≤ length a → drop (w * 17) (row_vec (downs_at q a i)) ≡ replicate ((16 - w) * 17) (pos 4000000)
    down_behind i h = row_behind w f.wide (downs_at q a i) (downs_few i h)

    -- the row, taken back from the cells between the passes
    pub half_taken : (i : ℕ) → i ≤ length a
        → flat (map (down_lanes (length q.rules)) (parted w (4 * length q.rules + 3) (half_block q w a i))) ++ replicate ((16 - w) * 17) (pos 4000000) ≡ row_vec (downs_at q a i)
    half_taken i h =
        let m = length q.rules in
        let ds = downs_at q a i in
        let own = padded w none ds in
        let read : (j : ℕ) → j < w → down_lanes m (half_row q w a i j) ≡ vec (get_or ds j none) = λ j l. reads_down q s i (omega (arith, f.long)) ds (down_fits i) j (omega (arith, f.wide)) in
        let nodes : flat (map (down_lanes m) (parted w (4 * m + 3) (half_block q w a i))) ≡ gather vec own =
        ap (λ (l : List (List ℤ)). flat (map (down_lanes m) l)) (half_parted q w a i) ∙ flat_map (down_lanes m) (map (half_row q w a i) (from 0 w)) ∙ gather-map (down_lanes m) (half_row q w a i) (from 0 w)
        ∙ gather_below (λ j. down_lanes m (half_row q w a i j)) (λ j. vec (get_or ds j none)) w read 0 w (omega arith) ∙ sym (gather-map vec (λ j. get_or ds j none) (from 0 w)) ∙ ap (gather vec) (sym (padded_places w none ds)) in
        let few : length own ≡ w = length-padded none w ds in
        let same : row_vec own ≡ row_vec ds = ap (gather vec) (padded_same 16 none own ds (λ j. get_or-padded w ds j none (downs_few i h))) in
        (λ j. nodes j ++ replicate ((16 - sym few j) * 17) (pos 4000000)) ∙ sym (row_own own (omega (arith, f.wide))) ∙ same

    pub up_behind : (i : ℕ) → i ≤ length a → drop (w * 17) (row_vec (ups_at q a i)) ≡ replicate ((16 - w) * 17) (pos 4000000)
    up_behind i h = row_behind w f.wide (ups_at q a i) (ups_few i h)

    pub lower : (i : ℕ) → i < length a → Each (Each (λ b. b ≤ w)) (get_or a i [])
    lower i h = each_more (Each (λ b. b ≤ node_count (drop (suc i) a))) (Each (λ b. b ≤ w)) (λ bs l. each_more (λ b. b ≤ node_count (drop (suc i) a)) (λ b. b ≤ w) (λ b k. omega (arith, nodes_few (suc i))) bs l) (get_or a i []) (f.full i h).leads

  pub last_turn : flat (up_cells (length q.rules) (row_vec (ups_at q a (length a))) 0 (parted w (4 * length q.rules + 3) (half_block q w a (length a)))) ≡ cell_block q w a (length a)
  last_turn =
      let n = length a in
      rw (half_parted q w a n) (ap flat (row_cells q s n (n - n) f.long (omega (arith, f.long)) (downs_at q a n) (ups_at q a n) (down_fits n) (up_fits n) w f.wide))

-- ---- arcs of the same form that agree above layer r: so do the down numbers up to it
module _ (q : Campaign) (w : ℕ) (a a' : Arcs) (f : Whole w a) (f' : Whole w a') (long : length a ≡ length a') (r : ℕ) (few : r ≤ length a) (same : (j : ℕ) → j < r → get_or a j [] ≡ get_or a' j []) where
  counts_same : (j : ℕ) → node_count (drop j a) ≡ node_count (drop j a')
  counts_same j = elim (dec_lt j (length a)) [
    | yes h ↦ rw (drop-cons a j [] h, drop-cons a' j [] (omega arith)) ((f.full j h).long ∙ sym (f'.full j (omega arith)).long)
    | no h ↦ rw (drop_of_length-le a {i = j} (omega arith), drop_of_length-le a' {i = j} (omega arith)) refl
  ]

  pub downs_same : (i : ℕ) → i ≤ r → downs_at q a i ≡ downs_at q a' i
  downs_same zero h = down_first q a ∙ sym (down_first q a')
  downs_same (suc i) h =
      down_next q a i (omega arith) ∙ (λ j. map (λ k. down_at q i k (downs_same i (omega arith) j) (same i (omega arith) j)) (from 0 (counts_same (suc i) j))) ∙ sym (down_next q a' i (omega arith))

-- ---- arcs in bytes: n layers of w nodes of 8 bytes
pub parted_count : {A : Type 0} (n k : ℕ) (l : List A) → length (parted n k l) ≡ n
parted_count n k l = sym (length-map (parted n k l) (λ x. x)) ∙ length_fields (λ x. x) n k l

parted_each : {A : Type 0} (n k : ℕ) (l : List A) → length l ≡ n * k → Each (λ x. length x ≡ k) (parted n k l)
parted_each zero k l e = tt
parted_each (suc n) k l e = let m = suc-mul n k in (length-take-le k l (omega arith), parted_each n k (drop k l) (omega (arith, length-drop k l)))

-- w nodes in every layer
nodes_most : (w : ℕ) → w ≤ 16 → (a : Arcs) → Each (λ l. length l ≡ w) a → (j : ℕ) → node_count (drop j a) ≤ 16
nodes_most w r [] h zero = omega arith
nodes_most w r [] h (suc j) = omega arith
nodes_most w r (l ∷ ls) h zero = omega (arith, h.0)
nodes_most w r (l ∷ ls) h (suc j) = nodes_most w r ls h.1 j

-- "0 to W, for the last slot 0 or 1"
form_leads : (w : ℕ) (a : Arcs) → Each (λ l. length l ≡ w) a → of_form w a ≡ true → (j : ℕ) → j < length a → Each (Each (λ b. b ≤ node_count (drop (suc j) a))) (get_or a j [])
form_leads w [] h e j b = absurd (omega arith)
form_leads w (l ∷ []) h e zero b = true_low 1 l e
form_leads w (l ∷ []) h e (suc j) b = absurd (omega arith)
form_leads w (l ∷ m ∷ ls) h e zero b = rw h.1.0 (true_low w l (and_l (every (every (λ b. leb b w)) l) (of_form w (m ∷ ls)) e))
form_leads w (l ∷ m ∷ ls) h e (suc j) b = form_leads w (m ∷ ls) h.1 (and_r (every (every (λ b. leb b w)) l) (of_form w (m ∷ ls)) e) j (omega arith)

module _ (n w : ℕ) (b : List ℕ) where
  abbrev arcs_of : Arcs
  arcs_of = map (parted w 8) (parted n (w * 8) b)

  pub layers_long : length arcs_of ≡ n
  layers_long = length_fields (parted w 8) n (w * 8) b

  pub layer_at : (j : ℕ) → j < n → get_or arcs_of j [] ≡ parted w 8 (take (w * 8) (drop (j * (w * 8)) b))
  layer_at j h = get_or_map (parted w 8) (parted n (w * 8) b) j [] [] (omega (arith, parted_count n (w * 8) b)) ∙ ap (parted w 8) (get_or-parted n (w * 8) j b h)

  pub bytes_whole : n ≤ 24 → w ≤ 16 → length b ≡ n * (w * 8) → of_form w arcs_of ≡ true → Whole w arcs_of
  bytes_whole few wide long form =
      let rows = parted_each n (w * 8) b long in
      let sized : Each (λ l. Each (λ bs. length bs ≡ 8) l) arcs_of = each_map (λ (x : List ℕ). length x ≡ w * 8) (λ l. Each (λ bs. length bs ≡ 8) l) (parted w 8) (λ x e. parted_each w 8 x e) (parted n (w * 8) b) rows in
      let same : Each (λ l. length l ≡ w) arcs_of = each_map (λ (x : List ℕ). length x ≡ w * 8) (λ l. length l ≡ w) (parted w 8) (λ x e. parted_count w 8 x) (parted n (w * 8) b) rows in
      record {
        wide = wide;
        long = omega (arith, layers_long);
        few = each_more (Each (λ bs. length bs ≡ 8)) (Each (λ bs. length bs ≤ 8)) (λ l h. each_more (λ bs. length bs ≡ 8) (λ bs. length bs ≤ 8) (λ bs e. omega arith) l h) arcs_of sized;
        full = λ j h. record {
          long = rw (layer_at j (omega (arith, layers_long))) (parted_count w 8 (take (w * 8) (drop (j * (w * 8)) b)));
          bytes = each_at (Each (λ bs. length bs ≡ 8)) arcs_of j [] tt sized;
          leads = form_leads w arcs_of same form j h;
          most = nodes_most w wide arcs_of same (suc j);
        };
      }
