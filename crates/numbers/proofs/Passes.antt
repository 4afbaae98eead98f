-- What do the two passes hold between two layers, and what does a layer add?
use mathlib.Core.Path.{◌≡◌, refl, sym, ap, ◌∙◌}
use mathlib.Core.List.{List, [], ◌∷◌, ◌++◌, map}
use mathlib.Core.Bool.{Bool, true, false, cond, not, ◌&&◌, ◌||◌}
use mathlib.Core.Logic.{◌⊎◌, ⊎_elim, inl}
use mathlib.Core.Option.{some}
use Prim.Native.Nat.{ℕ, zero, suc, ◌+◌, ◌*◌, ◌-◌, ◌≤◌, ◌<◌}
use native.Mathlib.Nat.{zero-add, suc-mul, mul_comm, mul_assoc, mul-le-mul, mul-le-mul_right}
use native.Mathlib.Omega.{arith}
use borrow.Author.Tests.{eq-eqb, ne_eqb, not-false}
use lib.Dec.{eqb}
use lib.ListN.{length, get_or, take, drop, replicate, take-append-drop, length-drop}
use lib.Seq.{length-take-le, take_all, take_at, take-take}
use lib.IntN.{ℤ, pos, neg_ℤ}
use Rattle.laws.specs.Z.{Within}
use Rattle.laws.specs.Lists.{flat, gather, from, padded, parted, same}
use Rattle.laws.proofs.Lists.{length_from, cond_first, cond_second}
use Rattle.laws.proofs.Parts.{same_true}
use Rattle.laws.proofs.Filled.{length_rows, take_within}
use Rattle.laws.proofs.Each.{Each, each_more, each_flat}
use Rattle.meaning.specs.Plan.{Rule, Campaign, slots}
use Rattle.meaning.specs.Diagram.{Pair, Arcs, starts}
use Rattle.meaning.specs.Problem.{version1}
use Rattle.meaning.specs.Filter.{Numbers, down_numbers, up_numbers, Test, drops}
use Rattle.meaning.specs.Buffers.{arcs_in, node_need, cells_need, all_cells}
use Rattle.problem.specs.declared.Problem.{Problem}
use Rattle.problem.specs.Held.{campaign_of}
use Rattle.problem.proofs.Faultless.{right}
use Rattle.lent.specs.Wide.{laid}
use Rattle.lent.specs.Passes.{Slot, Row, Spare, Bytes, HalfCells, bring_layer, raise_layer, down_lanes, room_lanes, down_cells, up_cells, test_layer, layer_cells}
use Rattle.lent.specs.Vec.{vec, slot_vec, row_vec, test_of, limit_vec}
use Rattle.lent.specs.Small.{Small}
use Rattle.lent.proofs.Vec.{slot_vec_lem, row_behind}
use Rattle.lent.proofs.Whole.{downs_at, ups_at, down_first, up_last, Whole, half_block, cell_block, byte_block, half_long, down_row, up_row, half_blocks, half_right, all_blocks, laid_blocks, lower, down_behind, half_taken, up_behind, down_turn, up_turn, test_turn, cell_turn, last_turn, downs_same, gather_below, layers_long, layer_at, bytes_whole}
use Rattle.slot.specs.Rows.{slot_lanes}
use Rattle.slot.specs.Tables.{coefs_in, weights_in, Tabled}
use Rattle.slot.proofs.Said.{said_slot, said_small, rules_long, tabled_coefs, tabled_weight, tabled_row}
use Rattle.rows.proofs.Laid.{part_is, place_in, put, put_pastes, pasted_long}
use Rattle.rows.proofs.Lanes.{each_replicate}
use Rattle.numbers.specs.Whole.{Ready, Sized, Formed, half_cells, Standing, Fell}
use Rattle.numbers.proofs.Blocks.{Onward, onward_start, onward_place, onward_more, onward_end, Back, back_start, back_place, back_part, back_more, back_end, block_at, blocks_first, put_again}

or_true : (t : Bool) → (t || true) ≡ true
or_true true = refl
or_true false = refl

and_not : (t : Bool) → (false || (t && not true)) ≡ false
and_not true = refl
and_not false = refl

-- ---- where the passes run: bytes b of arcs a, n layers of w nodes, m rules
pub record Setting (q : Campaign) (w n m : ℕ) (b : List ℕ) (a : Arcs) : Type 0 where
  pub small : Small q
  pub some : 1 ≤ w
  pub whole : Whole w a
  pub count : length a ≡ n
  pub rules : length q.rules ≡ m
  pub long : length b ≡ n * (w * 8)
  pub layer : (j : ℕ) → j < n → get_or a j [] ≡ parted w 8 (take (w * 8) (drop (j * (w * 8)) b))

-- the tables hold 24 step sets
pub sets_long : {p : Problem} {coefs : List ℤ} {values : List ℕ} → Tabled p coefs values → length p.sets ≡ 24
sets_long {p} {coefs} {values} t = sym (ap length t.sets_are) ∙ length-take-le 24 (drop 192 values) (omega (arith, length-drop 192 values, t.wide))

pub setting : {p : Problem} {w : ℕ} {b : List ℕ} → Ready p w → Formed (campaign_of p) w b → length p.sets ≡ 24 → Setting (campaign_of p) w p.slots p.rules b (arcs_in (campaign_of p) w b)
setting {p} {w} {b} r f e =
    let h = right version1 p r.right in
    let k = length (take p.slots p.sets) in
    let slots : k ≡ p.slots = length-take-le p.slots p.sets (omega (arith, h.head.most)) in
    let turned : 8 * k * w ≡ k * (w * 8) = mul_assoc 8 k w ∙ mul_comm 8 (k * w) ∙ mul_assoc k w 8 in
    let long : length b ≡ k * (w * 8) = f.long ∙ turned in
    record {
      small = said_small p h;
      some = r.some;
      whole = bytes_whole k w b (omega (arith, h.head.most)) r.few long f.form;
      count = layers_long k w b ∙ slots;
      rules = rules_long p;
      long = long ∙ ap (λ (j : ℕ). j * (w * 8)) slots;
      layer = λ j l. layer_at k w b j (omega arith);
    }

-- a campaign's slots
pub slots_are : {p : Problem} {w : ℕ} → Ready p w → length p.sets ≡ 24 → slots (campaign_of p) ≡ p.slots
slots_are {p} r e = length-take-le p.slots p.sets (omega (arith, (right version1 p r.right).head.most))

pub standing_most : {p : Problem} {w from : ℕ} {arcs : List ℕ} {cells : List ℤ} → Ready p w → length p.sets ≡ 24 → Standing (campaign_of p) w from arcs cells → from ≤ p.slots
standing_most r e s = omega (arith, s.most, slots_are r e)

-- the down numbers that stand, by the problem's own numbers
pub standing_is : {p : Problem} {w from : ℕ} {arcs : List ℕ} {cells : List ℤ} → Ready p w → length p.sets ≡ 24 → Standing (campaign_of p) w from arcs cells → 0 < from
    → (from ≤ p.slots) × (let k = suc from * (w * (4 * p.rules + 3)) in take k cells ≡ take k (half_cells (campaign_of p) w (down_numbers (campaign_of p) (arcs_in (campaign_of p) w arcs))))
standing_is {p} {w} {from} {arcs} {cells} r e s h =
    let all = half_cells (campaign_of p) w (down_numbers (campaign_of p) (arcs_in (campaign_of p) w arcs)) in
    let count = ap (λ (m : ℕ). suc from * (w * (4 * m + 3))) (rules_long p) in
    (omega (arith, s.most, slots_are r e), sym (ap (λ (k : ℕ). take k cells) count) ∙ s.are h ∙ ap (λ (k : ℕ). take k all) count)

-- the cells of a campaign with m rules
pub need_is : {p : Problem} {w : ℕ} → Ready p w → length p.sets ≡ 24 → cells_need (campaign_of p) w ≡ suc p.slots * (w * (4 * p.rules + 3))
need_is {p} {w} r e =
    let h = right version1 p r.right in
    let slots : length (take p.slots p.sets) ≡ p.slots = length-take-le p.slots p.sets (omega (arith, h.head.most)) in
    (λ i. suc (slots i) * w * (4 * rules_long p i + 3)) ∙ mul_assoc (suc p.slots) w (4 * p.rules + 3)

-- the sizes that a problem without fault has
pub few_rules : {p : Problem} {w : ℕ} → Ready p w → p.rules ≤ 8
few_rules {p} r = (right version1 p r.right).head.rules

pub few_slots : {p : Problem} {w : ℕ} → Ready p w → p.slots ≤ 24
few_slots {p} r = (right version1 p r.right).head.most

pub few_size : {p : Problem} {w : ℕ} → Ready p w → w * (4 * p.rules + 3) ≤ 560
few_size {p} {w} r = let node : 4 * p.rules + 3 ≤ 35 = omega (arith, few_rules r) in mul-le-mul r.few node

-- the buffers, by the problem's own numbers
pub sized : {p : Problem} {w k : ℕ} {b : List ℕ} → Ready p w → Formed (campaign_of p) w b → length p.sets ≡ 24 → k ≡ cells_need (campaign_of p) w → Sized p.slots p.rules w (length b) k
sized {p} {w} {k} r f e o =
    let layers : suc p.slots ≤ 25 = omega (arith, few_slots r) in
    let all : suc p.slots * (w * (4 * p.rules + 3)) ≤ 25 * 560 = mul-le-mul layers (few_size r) in
    let long : k ≡ suc p.slots * (w * (4 * p.rules + 3)) = o ∙ need_is r e in
    record { slots = few_slots r; rules = few_rules r; width = r.few; arcs = (setting r f e).long; cells = omega (arith, suc-mul p.slots (w * (4 * p.rules + 3))); few = omega arith }

-- a layer's part of the cells
pub cells_room : {n m w b k : ℕ} → Sized n m w b k → (i : ℕ) → i ≤ n → i * (w * (4 * m + 3)) + w * (4 * m + 3) ≤ k
cells_room {m = m} {w = w} s i h = omega (arith, s.cells, mul-le-mul_right (w * (4 * m + 3)) h)

-- what `slot_row` asks for
pub slot_asks : {p : Problem} {w : ℕ} {coefs : List ℤ} {values : List ℕ} → Ready p w → Tabled p coefs values → (i : ℕ) → i < p.slots → (row : List ℤ) → length row ≡ 72
    → (i < 24) × Each (Within 1000) (coefs_in coefs) × Within 10000 (get_or (weights_in coefs) i (pos 0)) × (length coefs ≡ 232) × (length values ≡ 216) × (length row ≡ 72)
slot_asks {p} r t i l row e =
    let h = right version1 p r.right in
    (said_slot p h i l, tabled_coefs p h t, tabled_weight p h t i l, t.long, t.wide, e)

-- the row that it gives
pub row_said : {p : Problem} {w : ℕ} {coefs : List ℤ} {values : List ℕ} → Ready p w → Tabled p coefs values → (i : ℕ) → i < p.slots → {row : List ℤ}
    → row ≡ slot_lanes (take 8 (drop (i * 8) coefs)) (take 8 (drop (i * 8) values)) (get_or (weights_in coefs) i (pos 0)) → row ≡ slot_vec (campaign_of p) i
row_said {p} r t i l e = e ∙ tabled_row p (right version1 p r.right) t i l

-- the rows to work in, as they are at first
pub spare_start : Spare (replicate 272 (pos 4000000))
spare_start = record { long = refl; inside = each_replicate (Within 8000000) 272 (record { size = omega arith }) }

-- ---- one node, whose numbers are zero
abbrev pub origin : Pair
origin = (pos 0, pos 0)

map-replicate : {A B : Type 0} (f : A → B) (m : ℕ) (x : A) → map f (replicate m x) ≡ replicate m (f x)
map-replicate f zero x = refl
map-replicate {B = B} f (suc m) x = ap (λ (l : List B). f x ∷ l) (map-replicate f m x)

padded-replicate : (n m : ℕ) (z : ℤ) → padded n z (replicate m z) ≡ replicate n z
padded-replicate zero m z = refl
padded-replicate (suc n) zero z = ap (λ (l : List ℤ). z ∷ l) (padded-replicate n zero z)
padded-replicate (suc n) (suc m) z = ap (λ (l : List ℤ). z ∷ l) (padded-replicate n m z)

zero_lanes : (m : ℕ) → vec (some (replicate m origin, pos 0)) ≡ replicate 17 (pos 0)
zero_lanes m =
    rw (map-replicate (λ (p : Pair). p.0) m origin, map-replicate (λ (p : Pair). p.1) m origin, map-replicate neg_ℤ m (pos 0), padded-replicate 8 m (pos 0))

pub one_row : (m : ℕ) {row : List ℤ} → row ≡ replicate 17 (pos 0) ++ replicate 255 (pos 4000000) → row ≡ row_vec (some (replicate m origin, pos 0) ∷ [])
one_row m e = e ∙ ap (λ (l : List ℤ). l ++ replicate 255 (pos 4000000)) (sym (zero_lanes m))

starts_zero : (rs : List Rule) → Each (λ r. r.start ≡ pos 0) rs → starts rs ≡ replicate (length rs) origin
starts_zero [] h = refl
starts_zero (r ∷ rs) h = rw (h.0, starts_zero rs h.1)

zeros_zero : (rs : List Rule) → map (λ r. origin) rs ≡ replicate (length rs) origin
zeros_zero [] = refl
zeros_zero (r ∷ rs) = ap (λ (l : List Pair). origin ∷ l) (zeros_zero rs)

-- ---- bytes that are cut are put together again
pub parted_flat : (n k : ℕ) (l : List ℕ) → length l ≡ n * k → flat (parted n k l) ≡ l
parted_flat zero k [] e = refl
parted_flat zero k (x ∷ l) e = absurd (omega arith)
parted_flat (suc n) k l e = rw (parted_flat n k (drop k l) (omega (arith, length-drop k l))) (take-append-drop k l)

-- block i of k elements, as a part of a buffer
abbrev pub part : {A : Type 0} → List A → ℕ → ℕ → List A
part l i k = take (i * k + k - i * k) (drop (i * k) l)

-- ---- down: the row of layer i, and the cells of all layers above it
pub record Down (q : Campaign) (w n m : ℕ) (a : Arcs) (cells here : List ℤ) (i : ℕ) : Type 0 where
  pub done : i ≤ n
  pub row : here ≡ row_vec (downs_at q a i)
  pub laid : Onward (w * (4 * m + 3)) (half_block q w a) (suc n) cells i

-- ---- up: the row of layer k, and the bytes from it on; `first` is the first layer of those that lost a byte, or n. x are the cells
-- and b the bytes that stood there: above `first` no byte changed, nor did a cell up to it if the test is not free. If it is, or if
-- no byte changed, the cells from layer k on hold the up numbers, too
pub record Up (q : Campaign) (w n m : ℕ) (a : Arcs) (e : Test) (b : List ℕ) (x : List ℤ) (free : Bool) (arcs : List ℕ) (cells next : List ℤ) (first k : ℕ) : Type 0 where
  pub row : next ≡ row_vec (ups_at q a k)
  pub bytes : Back (w * 8) (byte_block e q w a) n b arcs k
  pub most : first ≤ n
  pub low : k ≤ first
  pub above : take (first * (w * 8)) arcs ≡ take (first * (w * 8)) b
  pub long : length cells ≡ suc n * (w * (4 * m + 3))
  pub below : take (k * (w * (4 * m + 3))) cells ≡ take (k * (w * (4 * m + 3))) x
  pub up_to : free ≡ false → first < n → take (suc first * (w * (4 * m + 3))) cells ≡ take (suc first * (w * (4 * m + 3))) x
  pub laid : (free ≡ true) ⊎ (first ≡ n) → Back (w * (4 * m + 3)) (cell_block q w a) (suc n) x cells k

-- a layer to come
pub up_at : {q : Campaign} {w n m : ℕ} {a : Arcs} {e : Test} {b : List ℕ} {x : List ℤ} {free : Bool} {arcs : List ℕ} {cells next : List ℤ} {first k : ℕ} → Up q w n m a e b x free arcs cells next first k → 0 < k
    → Up q w n m a e b x free arcs cells next first (suc (k - 1))
up_at {k = k} u h = let o : suc (k - 1) ≡ k = omega arith in rw o u

module _ {q : Campaign} {w n m : ℕ} {b : List ℕ} {a : Arcs} (s : Setting q w n m b a) where
  abbrev size : ℕ
  size = w * (4 * m + 3)

  -- ---- places
  -- the last layer's
  pub last_place : {k : ℕ} → k ≡ suc n * size → n * size + size ≤ k
  last_place e = let p = place_in (suc n) size n (omega arith) in omega arith

  pub byte_place : (i : ℕ) → i < n → i * (w * 8) + w * 8 ≤ length b
  byte_place i h = omega (arith, s.long, place_in n (w * 8) i h)

  -- ---- one layer
  pub slot_right : (i : ℕ) {row : List ℤ} → row ≡ slot_vec q i → Slot row
  slot_right i e = rw e (slot_vec_lem q s.small i)

  block_long : (i : ℕ) → length (half_block q w a i) ≡ size
  block_long i = half_long q w a i ∙ ap (λ (k : ℕ). w * (4 * k + 3)) s.rules

  layer_lower : (i : ℕ) → i < n → Each (λ k. k ≤ w) (take (w * 8) (drop (i * (w * 8)) b))
  layer_lower i h =
      let c = s.count in
      let l = take (w * 8) (drop (i * (w * 8)) b) in
      let long : length l ≡ w * 8 = length-take-le (w * 8) (drop (i * (w * 8)) b) (omega (arith, s.long, place_in n (w * 8) i h, length-drop (i * (w * 8)) b)) in
      rw (← parted_flat w 8 l long) (each_flat (λ (k : ℕ). k ≤ w) (parted w 8 l) (rw (s.layer i h) at (lower q s.small w a s.whole s.some i (omega arith))))

  -- ---- down
  half_made : (i : ℕ) {here y : List ℤ} → here ≡ row_vec (downs_at q a i) → y ≡ flat (map (down_cells m here) (from 0 w)) → y ≡ half_block q w a i
  half_made i e f = f ∙ (λ j. flat (map (down_cells (sym s.rules j) (e j)) (from 0 w)))

  pub down_start : {cells here : List ℤ} → length cells ≡ suc n * size → here ≡ row_vec (some (replicate m origin, pos 0) ∷ []) → Down q w n m a cells here 0
  down_start l e =
      let zero : replicate m origin ≡ starts q.rules = ap (λ (k : ℕ). replicate k origin) (sym s.rules) ∙ sym (starts_zero q.rules s.small.starts) in
      record { done = omega arith; row = e ∙ (λ j. row_vec (some (zero j, pos 0) ∷ [])) ∙ ap row_vec (sym (down_first q a)); laid = onward_start l }

  half_is : half_cells q w (down_numbers q a) ≡ gather (half_block q w a) (from 0 (suc n))
  half_is = half_blocks q s.small w a s.whole ∙ ap (λ (k : ℕ). gather (half_block q w a) (from 0 (suc k))) s.count

  half_part : (i : ℕ) → i ≤ n → take size (drop (i * size) (half_cells q w (down_numbers q a))) ≡ half_block q w a i
  half_part i h = ap (λ (l : List ℤ). take size (drop (i * size) l)) half_is ∙ block_at size (half_block q w a) block_long 0 (suc n) i (omega arith) ∙ ap (half_block q w a) (zero-add i)

  -- the first k layers of them
  half_first : (k : ℕ) → k ≤ suc n → take (k * size) (half_cells q w (down_numbers q a)) ≡ gather (half_block q w a) (from 0 k)
  half_first k h = ap (take (k * size)) half_is ∙ blocks_first size (half_block q w a) block_long 0 (suc n) k h

  -- a buffer whose layers up to k hold the down numbers
  module _ (cells : List ℤ) (k : ℕ) (h : k ≤ n) (long : length cells ≡ suc n * size) (stand : take (suc k * size) cells ≡ take (suc k * size) (half_cells q w (down_numbers q a))) where
    stand_first : take (k * size) cells ≡ gather (half_block q w a) (from 0 k)
    stand_first =
        let next = suc-mul k size in
        sym (take-take (k * size) (suc k * size) cells (omega arith)) ∙ ap (take (k * size)) stand ∙ take-take (k * size) (suc k * size) (half_cells q w (down_numbers q a)) (omega arith) ∙ half_first k (omega arith)

    stand_block : part cells k size ≡ half_block q w a k
    stand_block =
        let next = suc-mul k size in
        part_is (k * size) size cells ∙ sym (take_within (k * size) size (suc k * size) cells (omega arith)) ∙ ap (λ (l : List ℤ). take size (drop (k * size) l)) stand
        ∙ take_within (k * size) size (suc k * size) (half_cells q w (down_numbers q a)) (omega arith) ∙ half_part k h

    pub stand_inside : Each (Within 4000000) (part cells k size)
    stand_inside = let c = s.count in rw stand_block (half_right q s.small w a s.whole k (omega arith)).inside

    pub stand_place : k * size + size ≤ length cells
    stand_place = let p = place_in (suc n) size k (omega arith) in omega arith

    pub down_from : {here one : List ℤ} → one ≡ row_vec (some (replicate m origin, pos 0) ∷ []) → here ≡ flat (map (down_lanes m) (parted w (4 * m + 3) (part cells k size))) ++ drop (w * 17) one → Down q w n m a cells here k
    down_from {here} {one} e f =
        let c = s.count in
        let rest : drop (w * 17) one ≡ replicate ((16 - w) * 17) (pos 4000000) = ap (drop (w * 17)) e ∙ row_behind w s.whole.wide (some (replicate m origin, pos 0) ∷ []) s.some in
        record {
          done = h;
          row = f ∙ (λ j. flat (map (down_lanes (sym s.rules j)) (parted w (4 * sym s.rules j + 3) (stand_block j))) ++ rest j) ∙ half_taken q s.small w a s.whole s.some k (omega arith);
          laid = record { done = omega arith; long = long; is = stand_first };
        }

  pub bytes_lower : (i : ℕ) → i < n → Each (λ k. k ≤ w) (part b i (w * 8))
  bytes_lower i h = rw (part_is (i * (w * 8)) (w * 8) b) (layer_lower i h)

  module _ {cells here : List ℤ} {i : ℕ} (d : Down q w n m a cells here i) where
    pub down_right : Row here
    down_right = let c = s.count in rw d.row (down_row q s.small w a s.whole i (omega (arith, d.done)))

    pub down_rest : drop (w * 17) here ≡ replicate ((16 - w) * 17) (pos 4000000)
    down_rest = let c = s.count in ap (drop (w * 17)) d.row ∙ down_behind q s.small w a s.whole s.some i (omega (arith, d.done))

    pub down_place : i * size + size ≤ length cells
    down_place = onward_place d.laid (omega (arith, d.done))

    pub down_more : {y row next : List ℤ} → i < n → y ≡ flat (map (down_cells m here) (from 0 w)) → row ≡ slot_vec q i
        → next ≡ bring_layer row here 0 (parted w 8 (part b i (w * 8))) (replicate 272 (pos 4000000)) → Down q w n m a (put cells (i * size) size y) next (i + 1)
    down_more {y} h e f g =
        let c = s.count in
        let made = half_made i d.row e in
        let layer : parted w 8 (part b i (w * 8)) ≡ get_or a i [] = ap (parted w 8) (part_is (i * (w * 8)) (w * 8) b) ∙ sym (s.layer i h) in
        let o : suc i ≡ i + 1 = omega arith in
        record {
          done = omega arith;
          row = g ∙ (λ j. bring_layer (f j) (d.row j) 0 (layer j) (row_vec [])) ∙ down_turn q s.small w a s.whole i (omega arith) ∙ ap (λ (k : ℕ). row_vec (downs_at q a k)) o;
          laid = onward_more d.laid (omega arith) made (ap length made ∙ block_long i);
        }

  pub down_last : {cells here y : List ℤ} {i : ℕ} → Down q w n m a cells here i → n ≤ i → y ≡ flat (map (down_cells m here) (from 0 w)) → Onward size (half_block q w a) (suc n) (put cells (n * size) size y) (n + 1)
  down_last {cells} {here} {y} {i} d h e =
      let o : i ≡ n = omega (arith, d.done) in
      let made = half_made i d.row e in
      rw o at (onward_more d.laid (omega arith) made (ap length made ∙ block_long i))

  pub down_end : {cells : List ℤ} → Onward size (half_block q w a) (suc n) cells (n + 1) → cells ≡ half_cells q w (down_numbers q a)
  down_end d = onward_end d (omega arith) ∙ sym half_is

  -- ---- up
  last_row : {next : List ℤ} → next ≡ row_vec (some (replicate m origin, pos 0) ∷ []) → next ≡ row_vec (ups_at q a n)
  last_row e =
      let zero : replicate m origin ≡ map (λ r. origin) q.rules = ap (λ (k : ℕ). replicate k origin) (sym s.rules) ∙ sym (zeros_zero q.rules) in
      e ∙ (λ j. row_vec (some (zero j, pos 0) ∷ [])) ∙ ap row_vec (sym (up_last q a) ∙ ap (ups_at q a) s.count)

  pub last_right : {next : List ℤ} → next ≡ row_vec (some (replicate m origin, pos 0) ∷ []) → Row next
  last_right e = rw (last_row e) (up_row q s.small w a s.whole n)

  module _ {x : List ℤ} (half : x ≡ half_cells q w (down_numbers q a)) where
    pub half_count : length x ≡ suc n * size
    half_count = ap length (half ∙ half_is) ∙ length_rows (half_block q w a) size block_long (from 0 (suc n)) ∙ ap (λ (k : ℕ). k * size) (length_from 0 (suc n))

    pub last_room : n * size + size ≤ length x
    last_room = last_place half_count

    last_block : part x n size ≡ half_block q w a n
    last_block = part_is (n * size) size x ∙ ap (λ (l : List ℤ). take size (drop (n * size) l)) half ∙ half_part n (omega arith)

    pub last_half : HalfCells m w (part x n size)
    last_half = let c = s.count in rw (last_block, ← s.rules) (half_right q s.small w a s.whole n (omega arith))

    pub up_start : (e : Test) (free : Bool) {c next y : List ℤ} → c ≡ x → next ≡ row_vec (some (replicate m origin, pos 0) ∷ []) → y ≡ flat (up_cells m next 0 (parted w (4 * m + 3) (part c n size))) → length y ≡ size
        → Up q w n m a e b x free b (put c (n * size) size y) next n n
    up_start e free {c} {next} {y} is f g l =
        let block : part c n size ≡ half_block q w a n = ap (λ (l : List ℤ). part l n size) is ∙ last_block in
        let made : y ≡ cell_block q w a n = g ∙ (λ j. flat (up_cells (sym s.rules j) (last_row f j) 0 (parted w (4 * sym s.rules j + 3) (block j)))) ∙ rw s.count at (last_turn q s.small w a s.whole) in
        let cells : Back size (cell_block q w a) (suc n) x (put c (n * size) size y) n = back_more (back_start is (ap length is ∙ half_count)) made l in
        record {
          row = last_row f;
          bytes = back_start refl s.long;
          most = omega arith;
          low = omega arith;
          above = refl;
          long = cells.long;
          below = cells.left;
          up_to = λ o h. absurd (omega arith);
          laid = λ o. cells;
        }

    module _ {e : Test} {free : Bool} {arcs : List ℕ} {cells next : List ℤ} {first i : ℕ} (u : Up q w n m a e b x free arcs cells next first (suc i)) where
      pub up_here : i < n
      up_here = u.bytes.done

      pub up_byte_place : i * (w * 8) + w * 8 ≤ length arcs
      up_byte_place = back_place u.bytes

      pub up_place : i * size + size ≤ length cells
      up_place = omega (arith, u.long, place_in (suc n) size i (omega (arith, u.bytes.done)))

      pub up_right : Row next
      up_right = rw u.row (up_row q s.small w a s.whole (suc i))

      up_layer : part arcs i (w * 8) ≡ take (w * 8) (drop (i * (w * 8)) b)
      up_layer = part_is (i * (w * 8)) (w * 8) arcs ∙ back_part u.bytes

      up_block : part cells i size ≡ half_block q w a i
      up_block =
          let next = suc-mul i size in
          part_is (i * size) size cells ∙ sym (take_within (i * size) size (suc i * size) cells (omega arith)) ∙ ap (λ (l : List ℤ). take size (drop (i * size) l)) u.below
          ∙ take_within (i * size) size (suc i * size) x (omega arith) ∙ ap (λ (l : List ℤ). take size (drop (i * size) l)) half ∙ half_part i (omega (arith, u.bytes.done))

      pub up_low : Bytes (part arcs i (w * 8))
      up_low = rw up_layer (each_more (λ k. k ≤ w) (λ k. k ≤ 16) (λ k h. omega (arith, s.whole.wide)) (take (w * 8) (drop (i * (w * 8)) b)) (layer_lower i u.bytes.done))

      pub up_half : HalfCells m w (part cells i size)
      up_half = let c = s.count in rw (up_block, ← s.rules) (half_right q s.small w a s.whole i (omega (arith, u.bytes.done)))

      -- one layer: its row, its bytes, and its cells, if the test is free or no byte changed
      module _ (c : ℤ) (te : e ≡ test_of free c) {row limit here ys : List ℤ} {bs : List ℕ} {hit : Bool} (er : row ≡ slot_vec q i) (el : limit ≡ limit_vec c q) (eh : here ≡ flat (raise_layer row next (parted w 8 (part arcs i (w * 8)))) ++ drop (w * 17) next) (eb : bs ≡ flat (test_layer row next (parted w 8 (part arcs i (w * 8))) (map (room_lanes m free limit) (parted w (4 * m + 3) (part cells i size))))) (lb : length bs ≡ w * 8) (ey : ys ≡ cond (free || (eqb first n && not hit)) (flat (layer_cells row next m (parted w 8 (part arcs i (w * 8))) (parted w (4 * m + 3) (part cells i size)))) (part cells i size)) (ly : length ys ≡ size) (ef : hit ≡ not (same (part arcs i (w * 8)) bs)) where
        h : i < length a
        h = omega (arith, u.bytes.done, s.count)

        layer : parted w 8 (part arcs i (w * 8)) ≡ get_or a i []
        layer = ap (parted w 8) up_layer ∙ sym (s.layer i u.bytes.done)

        abbrev arcs' : List ℕ
        arcs' = put arcs (i * (w * 8)) (w * 8) bs

        abbrev cells' : List ℤ
        cells' = put cells (i * size) size ys

        bytes' : Back (w * 8) (byte_block e q w a) n b arcs' i
        bytes' =
            back_more u.bytes
            (eb ∙ (λ j. flat (test_layer (er j) (u.row j) (layer j) (map (room_lanes (sym s.rules j) free (el j)) (parted w (4 * sym s.rules j + 3) (up_block j)))))
            ∙ test_turn q s.small w a s.whole i h free c ∙ ap (λ t. byte_block t q w a i) (sym te)) lb

        row' : here ≡ row_vec (ups_at q a i)
        row' =
            let rest : drop (w * 17) next ≡ replicate ((16 - w) * 17) (pos 4000000) = ap (drop (w * 17)) u.row ∙ up_behind q s.small w a s.whole s.some (suc i) (omega (arith, h)) in
            eh ∙ (λ j. flat (raise_layer (er j) (u.row j) (layer j)) ++ rest j) ∙ up_turn q s.small w a s.whole i h

        long' : length cells' ≡ suc n * size
        long' = ap length (put_pastes cells ys (i * size) size ly) ∙ pasted_long cells ys (suc n) size i (omega (arith, u.bytes.done)) (omega (arith, u.long)) ly ∙ u.long

        below' : take (i * size) cells' ≡ take (i * size) x
        below' =
            let next = suc-mul i size in
            take_at (take (i * size) cells) (ys ++ drop (i * size + size - i * size) (drop (i * size) cells)) (i * size) (length-take-le (i * size) cells (omega (arith, up_place)))
            ∙ sym (take-take (i * size) (suc i * size) cells (omega arith)) ∙ ap (take (i * size)) u.below ∙ take-take (i * size) (suc i * size) x (omega arith)

        -- the cells are laid
        laid' : (free || (eqb first n && not hit)) ≡ true → ((free ≡ true) ⊎ (first ≡ n)) → Back size (cell_block q w a) (suc n) x cells' i
        laid' t o =
            back_more (u.laid o)
            (ey ∙ cond_first (free || (eqb first n && not hit)) _ _ t
            ∙ (λ j. flat (layer_cells (er j) (u.row j) (sym s.rules j) (layer j) (parted w (4 * sym s.rules j + 3) (up_block j)))) ∙ cell_turn q s.small w a s.whole i h) ly

        -- or stay
        stays : (free || (eqb first n && not hit)) ≡ false → cells' ≡ cells
        stays t = put_again cells ys (i * size) size (ey ∙ cond_second (free || (eqb first n && not hit)) _ _ t)

        -- no byte of the layer changed
        pub up_still : hit ≡ false → Up q w n m a e b x free arcs' cells' here first i
        up_still o =
            let kept : arcs' ≡ arcs = put_again arcs bs (i * (w * 8)) (w * 8) (sym (same_true (part arcs i (w * 8)) bs (not-false (same (part arcs i (w * 8)) bs) (sym ef ∙ o)))) in
            record {
              row = row';
              bytes = bytes';
              most = u.most;
              low = omega (arith, u.low);
              above = ap (take (first * (w * 8))) kept ∙ u.above;
              long = long';
              below = below';
              up_to = λ f l. ap (take (suc first * size)) (stays (rw (f, ne_eqb first n (λ r. omega arith)) refl)) ∙ u.up_to f l;
              laid = λ d. laid' (⊎_elim (λ f. rw f refl) (λ r. rw (eq-eqb first n r, o) (or_true free)) d) d;
            }

        -- one changed
        pub up_falls : hit ≡ true → Up q w n m a e b x free arcs' cells' here i i
        up_falls o =
            let next = suc-mul i (w * 8) in
            let wide = mul-le-mul_right (w * 8) u.low in
            record {
              row = row';
              bytes = bytes';
              most = omega (arith, u.bytes.done);
              low = omega arith;
              above =
                  take_at (take (i * (w * 8)) arcs) (bs ++ drop (i * (w * 8) + w * 8 - i * (w * 8)) (drop (i * (w * 8)) arcs)) (i * (w * 8)) (length-take-le (i * (w * 8)) arcs (omega (arith, up_byte_place)))
                  ∙ sym (take-take (i * (w * 8)) (first * (w * 8)) arcs (omega arith)) ∙ ap (take (i * (w * 8))) u.above ∙ take-take (i * (w * 8)) (first * (w * 8)) b (omega arith);
              long = long';
              below = below';
              up_to = λ f l. ap (take (suc i * size)) (stays (rw (f, o) (and_not (eqb first n)))) ∙ u.below;
              laid = λ d. ⊎_elim (λ f. laid' (rw f refl) (inl f)) (λ r. absurd (omega (arith, u.bytes.done))) d;
            }

    module _ {e : Test} {free : Bool} {arcs : List ℕ} {cells next : List ℤ} {first k : ℕ} (u : Up q w n m a e b x free arcs cells next first k) (h : k ≤ 0) where
      none_left : k ≡ 0
      none_left = omega arith

      pub up_end : arcs ≡ laid 8 w (drops e q a)
      up_end = back_end (rw none_left at u.bytes) ∙ sym (laid_blocks q s.small w a s.whole e ∙ ap (λ (k : ℕ). gather (byte_block e q w a) (from 0 k)) s.count)

      pub up_cells_lem : (free ≡ true) ⊎ (first ≡ n) → cells ≡ all_cells (node_need q) w (down_numbers q a) (up_numbers q a)
      up_cells_lem o = back_end (rw none_left at (u.laid o)) ∙ sym (all_blocks q s.small w a s.whole ∙ ap (λ (k : ℕ). gather (cell_block q w a) (from 0 (suc k))) s.count)

      pub up_fell : Fell n (w * 8) size b arcs x cells free first
      up_fell = record {
        most = u.most;
        none = λ o. sym (take_all (n * (w * 8)) arcs (omega (arith, u.bytes.long))) ∙ (rw o at u.above) ∙ take_all (n * (w * 8)) b (omega (arith, s.long));
        above = u.above;
        up_to = u.up_to;
        long = u.long ∙ sym half_count;
      }

-- ---- between two rounds: bytes that agree above layer r have the same down numbers up to it
pub stand_on : {q : Campaign} {w n m : ℕ} {b b' : List ℕ} {a a' : Arcs} → Setting q w n m b a → Setting q w n m b' a' → (r : ℕ) → r < n → take (r * (w * 8)) b' ≡ take (r * (w * 8)) b
    → take (suc r * (w * (4 * m + 3))) (half_cells q w (down_numbers q a)) ≡ take (suc r * (w * (4 * m + 3))) (half_cells q w (down_numbers q a'))
stand_on {q} {w} {n} {m} {b} {b'} {a} {a'} s s' r h e =
    let c = s.count in
    let c' = s'.count in
    let same : (j : ℕ) → j < r → get_or a j [] ≡ get_or a' j [] = λ j l.
    let inside = place_in r (w * 8) j l in
    s.layer j (omega arith)
    ∙ ap (parted w 8) (sym (take_within (j * (w * 8)) (w * 8) (r * (w * 8)) b inside) ∙ ap (λ (l : List ℕ). take (w * 8) (drop (j * (w * 8)) l)) (sym e) ∙ take_within (j * (w * 8)) (w * 8) (r * (w * 8)) b' inside)
    ∙ sym (s'.layer j (omega arith)) in
    half_first s (suc r) (omega arith)
    ∙ gather_below (half_block q w a) (half_block q w a') (suc r)
    (λ i l. ap (λ (ds : List Numbers). flat (map (down_cells (length q.rules) (row_vec ds)) (from 0 w))) (downs_same q w a a' s.whole s'.whole (c ∙ sym c') r (omega arith) same i (omega arith))) 0 (suc r) (omega arith)
    ∙ sym (half_first s' (suc r) (omega arith))

-- so what stands behind a round is where the next begins
pub stands_next : {p : Problem} {w r : ℕ} {arcs arcs' : List ℕ} {cells cells' : List ℤ} → Ready p w → length p.sets ≡ 24 → Formed (campaign_of p) w arcs → Formed (campaign_of p) w arcs' → r < p.slots
    → cells ≡ half_cells (campaign_of p) w (down_numbers (campaign_of p) (arcs_in (campaign_of p) w arcs)) → Fell p.slots (w * 8) (w * (4 * p.rules + 3)) arcs arcs' cells cells' false r → Standing (campaign_of p) w r arcs' cells'
stands_next {p} {w} {r} {arcs} {arcs'} {cells} {cells'} ready e f f' h half fell =
    let all = half_cells (campaign_of p) w (down_numbers (campaign_of p) (arcs_in (campaign_of p) w arcs')) in
    let k = suc r * (w * (4 * p.rules + 3)) in
    let count = ap (λ (m : ℕ). suc r * (w * (4 * m + 3))) (rules_long p) in
    record {
      most = omega (arith, slots_are ready e);
      are = λ o.
          ap (λ (j : ℕ). take j cells') count ∙ fell.up_to refl h ∙ ap (take k) half ∙ stand_on (setting ready f e) (setting ready f' e) r h fell.above ∙ sym (ap (λ (j : ℕ). take j all) count);
    }

-- all of them stand
pub stands_whole : {p : Problem} {w from : ℕ} {arcs : List ℕ} {cells : List ℤ} → Ready p w → length p.sets ≡ 24 → Formed (campaign_of p) w arcs → length cells ≡ cells_need (campaign_of p) w → Standing (campaign_of p) w from arcs cells → p.slots ≤ from
    → cells ≡ half_cells (campaign_of p) w (down_numbers (campaign_of p) (arcs_in (campaign_of p) w arcs))
stands_whole {p} {w} {from} {arcs} {cells} ready e f long st h =
    let s = setting ready f e in
    let some = (right version1 p ready.right).head.some in
    let r = standing_is ready e st (omega arith) in
    let o : from ≡ p.slots = omega (arith, r.0) in
    let all = half_cells (campaign_of p) w (down_numbers (campaign_of p) (arcs_in (campaign_of p) w arcs)) in
    let k = suc p.slots * (w * (4 * p.rules + 3)) in
    sym (take_all k cells (omega (arith, need_is ready e))) ∙ (rw o at r.1) ∙ take_all k all (omega (arith, half_count s {x = all} refl))
