-- What has a loop over a layer's nodes made of its up numbers and bytes at each turn, and did a byte change?
use mathlib.Core.Path.{◌≡◌, refl, sym, ap, ◌∙◌}
use mathlib.Core.Bool.{Bool, false, not, ◌&&◌, ◌||◌}
use mathlib.Core.List.{List, [], ◌∷◌, ◌++◌, map, append_assoc}
use Prim.Native.Nat.{ℕ, suc, ◌+◌, ◌-◌, ◌*◌, ◌≤◌, ◌<◌}
use native.Mathlib.Omega.{arith}
use lib.ListN.{length, take, drop, length-map}
use lib.Seq.{length-take-le, paste, take_all, take_at, drop_at, drop-drop}
use lib.IntN.{ℤ}
use Rattle.laws.specs.Z.{Within}
use Rattle.laws.specs.Lists.{flat, parted, same}
use Rattle.laws.proofs.Each.{Each, each_of, each_more, each_map}
use Rattle.lent.specs.Lanes.{lanes_at}
use Rattle.lent.specs.Passes.{Slot, Row, Bytes, nowhere, raise_node, raise_layer, test_node, test_layer, node_lanes, down_lanes, room_lanes, up_cells, layer_cells}
use Rattle.lent.proofs.Whole.{parted_count}
use Rattle.rows.proofs.Laid.{part_long, put, put_pastes, pasted_first, first_next, Laying, laying_start, laying_part, laying_paste, laying_more, laying_end, laying_all}
use Rattle.rows.proofs.Free.{room_long}
use Rattle.rows.proofs.Layers.{parted_each, length-flat, parted_back, made, made_next, made_none, made_all, tests_left, tests_next, tests_none, tests_all}
use Rattle.rows.proofs.Up.{each_layer, rises_long, same_append, not_and, length_test}

-- a node's up numbers by its bytes
abbrev pub rises : List ℤ → List ℤ → List ℕ → List ℤ
rises row next bs = raise_node row next 0 bs nowhere

-- arcs, here and fell are what the loop has after j of w nodes
pub record Lifted (w : ℕ) (row next room : List ℤ) (arcs₀ : List ℕ) (here₀ : List ℤ) (arcs : List ℕ) (here : List ℤ) (fell : Bool) (j : ℕ) : Type 0 where
  pub rows : Laying 17 w (made (rises row next) w 8 arcs₀) here₀ here j
  pub bytes : Laying 8 w (tests_left w row next arcs₀ room) arcs₀ arcs j
  pub falls : fell ≡ not (same (take (j * 8) arcs₀) (take (j * 8) arcs))

pub lifted_start : (w : ℕ) (row next room : List ℤ) (arcs : List ℕ) (here : List ℤ) → w ≤ 16 → length arcs ≡ w * 8 → length here ≡ 272 → Lifted w row next room arcs here arcs here false 0
lifted_start w row next room arcs here few la lh = record { rows = laying_start (omega arith); bytes = laying_start (omega arith); falls = refl }

module _ {w j : ℕ} {row next room : List ℤ} {arcs₀ arcs : List ℕ} {here₀ here : List ℤ} {fell : Bool} (s : Lifted w row next room arcs₀ here₀ arcs here fell j) where
  -- up, bs and hit are what the turn makes of node j
  pub lifted_more : {x up here' : List ℤ} {bs : List ℕ} {hit fell' : Bool} → j < w → length up ≡ 17 → x ≡ lanes_at room (j * 17)
      → up ≡ raise_node row next 0 (take (j * 8 + 8 - j * 8) (drop (j * 8) arcs)) nowhere
      → bs ≡ test_node row next x 0 (take (j * 8 + 8 - j * 8) (drop (j * 8) arcs))
      → hit ≡ not (same (take (j * 8 + 8 - j * 8) (drop (j * 8) arcs)) bs)
      → here' ≡ paste here (j * 17) up 17 → fell' ≡ (fell || hit)
      → Lifted w row next room arcs₀ here₀ (put arcs (j * 8) 8 bs) here' fell' (j + 1)
  lifted_more {x} {up} {here'} {bs} {hit} h lu ex eu eb ehit ehere ef =
      let part : List ℕ = take 8 (drop (j * 8) arcs₀) in
      let same_part : take (j * 8 + 8 - j * 8) (drop (j * 8) arcs) ≡ part = laying_part s.bytes in
      let up_is : up ≡ rises row next part = eu ∙ ap (λ l. raise_node row next 0 l nowhere) same_part in
      let bs_is : bs ≡ test_node row next (lanes_at room (j * 17)) 0 part = eb ∙ (λ i. test_node row next (ex i) 0 (same_part i)) in
      let lp : length part ≡ 8 = ap length (sym same_part) ∙ part_long (j * 8) 8 arcs (omega (arith, s.bytes.long, s.bytes.room)) in
      let lt : length (test_node row next (lanes_at room (j * 17)) 0 part) ≡ 8 = length_test row next (lanes_at room (j * 17)) 0 part ∙ lp in
      let lb : length bs ≡ 8 = ap length bs_is ∙ lt in
      let ra : w * 8 ≤ length arcs = omega (arith, s.bytes.long, s.bytes.room) in
      let first_arcs : take ((j + 1) * 8) arcs₀ ≡ take (j * 8) arcs₀ ++ part = first_next arcs₀ j 8 in
      let first_bytes : take ((j + 1) * 8) (put arcs (j * 8) 8 bs) ≡ take (j * 8) arcs ++ bs = ap (take ((j + 1) * 8)) (put_pastes arcs bs (j * 8) 8 lb) ∙ pasted_first arcs bs w 8 j h ra lb in
      let both : same (take (j * 8) arcs₀ ++ part) (take (j * 8) arcs ++ bs) ≡ (same (take (j * 8) arcs₀) (take (j * 8) arcs) && same part bs) =
      same_append (take (j * 8) arcs₀) (take (j * 8) arcs) part bs (length-take-le (j * 8) arcs₀ (omega (arith, s.bytes.room)) ∙ sym (length-take-le (j * 8) arcs (omega arith))) in
      record {
        rows = rw ehere (laying_paste s.rows (rises row next part) h up_is (ap length (sym up_is) ∙ lu) (made_next (rises row next) w 8 arcs₀ j h));
        bytes = laying_more s.bytes (test_node row next (lanes_at room (j * 17)) 0 part) h bs_is lt (tests_next w row next arcs₀ room j h);
        falls = ef ∙ (λ i. s.falls i || (ehit ∙ ap (λ l. not (same l bs)) same_part) i) ∙ not_and (same (take (j * 8) arcs₀) (take (j * 8) arcs)) (same part bs) ∙ ap not (sym both) ∙ (λ i. not (same (sym first_arcs i) (sym first_bytes i)));
      }

  module _ (h : w ≤ j) where
    pub lifted_here : here ≡ flat (raise_layer row next (parted w 8 arcs₀)) ++ drop (w * 17) here₀
    lifted_here = laying_end s.rows h (made_none (rises row next) w 8 arcs₀) ∙ ap (λ l. l ++ drop (w * 17) here₀) (made_all (rises row next) w 8 arcs₀)

    module _ (long : length arcs₀ ≡ w * 8) where
      pub lifted_bytes : arcs ≡ flat (test_layer row next (parted w 8 arcs₀) (parted w 17 room))
      lifted_bytes = laying_all s.bytes h (tests_none w row next arcs₀ room) long ∙ tests_all w row next arcs₀ room

      pub lifted_fell : fell ≡ not (same arcs₀ arcs)
      lifted_fell = rw (take_all (j * 8) arcs₀ (omega arith), take_all (j * 8) arcs (omega (arith, s.bytes.long))) at s.falls

-- ---- the cells of a layer whose up numbers stand in a row: here has them from node j on
up_cells_lem : (m : ℕ) (row next here : List ℤ) (j : ℕ) (l : List (List ℕ)) (cs : List (List ℤ)) (rest : List ℤ) → length cs ≡ length l → Each (λ bs. length (rises row next bs) ≡ 17) l
    → drop (j * 17) here ≡ flat (raise_layer row next l) ++ rest → up_cells m here j cs ≡ layer_cells row next m l cs
up_cells_lem m row next here j [] [] rest e g h = refl
up_cells_lem m row next here j [] (c ∷ cs) rest e g h = absurd (omega arith)
up_cells_lem m row next here j (bs ∷ l) [] rest e g h = absurd (omega arith)
up_cells_lem m row next here j (bs ∷ l) (c ∷ cs) rest e g h =
    let y = rises row next bs in
    let tail = flat (raise_layer row next l) ++ rest in
    let split : drop (j * 17) here ≡ y ++ tail = h ∙ append_assoc y (flat (raise_layer row next l)) rest in
    let first : lanes_at here (j * 17) ≡ y = ap (take 17) split ∙ take_at y tail 17 g.0 in
    let place : suc j * 17 ≡ j * 17 + 17 = omega arith in
    let behind : drop (suc j * 17) here ≡ tail = rw place (sym (drop-drop 17 (j * 17) here)) ∙ ap (drop 17) split ∙ drop_at y tail 17 g.0 in
    (λ i. node_lanes m (down_lanes m c) (first i) ∷ up_cells_lem m row next here (suc j) l cs rest (omega arith) g.1 behind i)

-- ---- a whole layer
module _ (m w : ℕ) (row next : List ℤ) (arcs : List ℕ) (slot : Slot row) (right : Row next) (low : Bytes arcs) (long : length arcs ≡ w * 8) where
  rises_each : Each (λ bs. length (rises row next bs) ≡ 17) (parted w 8 arcs)
  rises_each =
      each_more (λ bs. (length bs ≡ 8) × Bytes bs) (λ bs. length (rises row next bs) ≡ 17) (λ bs h. rises_long row next slot.long right.long bs h.0 h.1) (parted w 8 arcs) (parted_each (λ b. b ≤ 16) w 8 arcs long low)

  layer_long : length (flat (raise_layer row next (parted w 8 arcs))) ≡ w * 17
  layer_long = length-flat 17 (raise_layer row next (parted w 8 arcs)) (each_map (λ bs. length (rises row next bs) ≡ 17) (λ l. length l ≡ 17) (rises row next) (λ bs e. e) (parted w 8 arcs) rises_each)
      ∙ ap (λ n. n * 17) (length-map (parted w 8 arcs) (rises row next) ∙ parted_count w 8 arcs)

  -- here has the up numbers, and something behind them
  module _ (rest : List ℤ) {here : List ℤ} (e : here ≡ flat (raise_layer row next (parted w 8 arcs)) ++ rest) where
    pub layer_taken : take (w * 17) here ≡ flat (raise_layer row next (parted w 8 arcs))
    layer_taken = ap (take (w * 17)) e ∙ take_at (flat (raise_layer row next (parted w 8 arcs))) rest (w * 17) layer_long

    pub layer_cells_lem : (cells : List ℤ) → flat (up_cells m here 0 (parted w (4 * m + 3) cells)) ≡ flat (layer_cells row next m (parted w 8 arcs) (parted w (4 * m + 3) cells))
    layer_cells_lem cells = ap flat (up_cells_lem m row next here 0 (parted w 8 arcs) (parted w (4 * m + 3) cells) rest (parted_count w (4 * m + 3) cells ∙ sym (parted_count w 8 arcs)) rises_each e)

    pub layer_within : Each (Within 10000000) (take (w * 17) here)
    layer_within = rw layer_taken (each_layer row next slot.inside right.inside (parted w 8 arcs))

-- the rooms of a layer, read from a row
pub rooms_back : (m w : ℕ) (free : Bool) (limit cells rest : List ℤ) {room : List ℤ} → length limit ≡ 17 → room ≡ flat (map (room_lanes m free limit) (parted w (4 * m + 3) cells)) ++ rest
    → parted w 17 room ≡ map (room_lanes m free limit) (parted w (4 * m + 3) cells)
rooms_back m w free limit cells rest wide e =
    let f = room_lanes m free limit in
    let parts = parted w (4 * m + 3) cells in
    let count : length (map f parts) ≡ w = length-map parts f ∙ parted_count w (4 * m + 3) cells in
    ap (parted w 17) e ∙ rw count at (parted_back 17 (map f parts) rest (each_map (λ c. Unit {0}) (λ l. length l ≡ 17) f (λ c t. room_long m free limit c wide) parts (each_of (λ c. Unit {0}) (λ c. tt) parts)))
