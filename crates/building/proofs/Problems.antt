-- What does one turn of the loop over the slots make of a problem without fault?
use mathlib.Core.Path.{◌≡◌, refl, sym, ap, subst, ◌∙◌}
use mathlib.Core.List.{List, [], ◌∷◌, map}
use mathlib.Core.Option.{some}
use mathlib.Core.Bool.{Bool, true, false, ◌&&◌, ◌||◌, cond}
use Prim.Native.Nat.{ℕ, suc, min, ◌+◌, ◌*◌, ◌-◌, ◌≤◌, ◌<◌}
use native.Mathlib.Nat.{suc-mul, mul_comm, mul_assoc, mul-le-mul, mul-le-mul_right}
use native.Mathlib.Omega.{arith}
use lib.Dec.{leb, eqb}
use lib.ListN.{length, get_or, take, drop, replicate}
use lib.IntN.{ℤ, pos}
use Rattle.laws.specs.Z.{Within}
use Rattle.laws.specs.Lists.{flat, from, padded, parted}
use Rattle.laws.proofs.Each.{Each, each_flat}
use Rattle.laws.proofs.Filled.{length-padded, part_pasted}
use Rattle.meaning.specs.Plan.{slots}
use Rattle.meaning.specs.Problem.{version1}
use Rattle.meaning.specs.Diagram.{State, reaches, Builder, relaxed, built, is_exact}
use Rattle.meaning.specs.Filter.{down_numbers}
use Rattle.meaning.specs.Buffers.{arcs_need, cells_need, arc_bytes}
use Rattle.problem.specs.declared.Problem.{Problem}
use Rattle.problem.specs.Held.{campaign_of}
use Rattle.problem.proofs.Faultless.{right}
use Rattle.state.specs.Pairs.{Inside, lessened, pairs_at}
use Rattle.state.proofs.Joined.{no_pair}
use Rattle.state.proofs.Sizes.{inside_more}
use Rattle.lent.specs.Passes.{Slot, Row, Spare, bring_layer, down_cells}
use Rattle.lent.specs.Small.{Small}
use Rattle.lent.specs.Vec.{slot_vec, row_vec}
use Rattle.lent.proofs.Vec.{slot_vec_lem}
use Rattle.lent.specs.Wide.{laid}
use Rattle.lent.proofs.Shape.{built_shaped}
use Rattle.lent.proofs.Whole.{lower}
use Rattle.rows.proofs.Laid.{part_is, part_long, put, put_pastes}
use Rattle.slot.specs.Rows.{slot_lanes}
use Rattle.slot.specs.Tables.{coefs_in, weights_in, leasts_in, mosts_in, Tabled}
use Rattle.slot.proofs.Said.{said_small}
use Rattle.numbers.specs.Whole.{Ready, half_cells}
use Rattle.numbers.proofs.Held.{held_arcs, held_formed}
use Rattle.numbers.proofs.Passes.{Setting, Down, sets_long, setting, slots_are, slot_asks, row_said, slot_right, need_is, last_place, origin, part as part_of, parted_flat, down_start, down_right, down_rest, down_place, down_more, down_last, down_end, few_rules, few_slots, few_size}
use Rattle.classes.specs.Classes.{Held, Totalled, arrival_at}
use Rattle.reach.specs.Spans.{Reached}
use Rattle.reach.proofs.Turn.{set_is as slot_set}
use Rattle.building.specs.Layers.{bounds_at, Made}
use Rattle.building.proofs.Bounds.{bounds_in, bounds_said, bounds_inside}
use Rattle.building.proofs.Slots.{all_arcs, Building, building_start, building_held, building_few, building_room, building_bytes, building_more, building_end}

-- the bytes of all arcs, as they will stand in the buffer
abbrev all_bytes : Builder → Problem → ℕ → List ℕ
all_bytes b p w = laid 8 w (built b (campaign_of p) w)

-- the sizes of a problem without fault, and room for its arcs and cells
pub record Sizes (p : Problem) (w bytes numbers : ℕ) : Type 0 where
  pub slots : p.slots ≤ 24
  pub rules : p.rules ≤ 8
  pub room : p.slots * (w * 8) ≤ bytes
  pub last : p.slots * (w * (4 * p.rules + 3)) + w * (4 * p.rules + 3) ≤ numbers
  pub few : numbers ≤ 14000

pub sizes : {p : Problem} {w z k : ℕ} → Ready p w → length p.sets ≡ 24 → arcs_need (campaign_of p) w ≤ z → k ≡ cells_need (campaign_of p) w → Sizes p w z k
sizes {p} {w} {z} {k} r e need o =
    let j = slots (campaign_of p) in
    let turned : 8 * j * w ≡ j * (w * 8) = mul_assoc 8 j w ∙ mul_comm 8 (j * w) ∙ mul_assoc j w 8 in
    let bytes : j * (w * 8) ≡ p.slots * (w * 8) = ap (λ (n : ℕ). n * (w * 8)) (slots_are r e) in
    let layers : suc p.slots ≤ 25 = omega (arith, few_slots r) in
    let all : suc p.slots * (w * (4 * p.rules + 3)) ≤ 25 * 560 = mul-le-mul layers (few_size r) in
    let long : k ≡ suc p.slots * (w * (4 * p.rules + 3)) = o ∙ need_is r e in
    let bytes_need : 8 * j * w ≤ z = need in
    record { slots = few_slots r; rules = few_rules r; room = omega arith; last = omega (arith, suc-mul p.slots (w * (4 * p.rules + 3))); few = omega arith }

-- a layer's part of the cells
pub place_at : {p : Problem} {w z k : ℕ} → Sizes p w z k → (i : ℕ) → i ≤ p.slots → i * (w * (4 * p.rules + 3)) + w * (4 * p.rules + 3) ≤ k
place_at {p} {w} s i h = omega (arith, s.last, mul-le-mul_right (w * (4 * p.rules + 3)) h)

-- what does not change, and what is built: the arcs and, with the cells and the row, the down numbers
pub record Going (p : Problem) (coefs : List ℤ) (values : List ℕ) (b : Builder) (w z : ℕ) (bounds : State) (table : List ℤ) (arcs : List ℕ) (cells here spare row : List ℤ) (nodes : ℕ) (exact : Bool) (i : ℕ) : Type 0 where
  pub ready : Ready p w
  pub tabled : Tabled p coefs values
  pub need : arcs_need (campaign_of p) w ≤ z
  pub ends : bounds ≡ padded 8 no_pair (bounds_in p)
  pub reached : Reached (campaign_of p) table
  pub building : Building b (campaign_of p) w z arcs nodes exact i
  pub down : Down (campaign_of p) w p.slots p.rules (all_arcs b (campaign_of p) w) cells here i
  pub room : Spare spare
  pub slot : length row ≡ 72

-- where the down numbers are reckoned: the bytes as they will stand
pub final : {p : Problem} {w : ℕ} (b : Builder) → Ready p w → length p.sets ≡ 24 → Setting (campaign_of p) w p.slots p.rules (all_bytes b p w) (all_arcs b (campaign_of p) w)
final {p} {w} b r e =
    let q = campaign_of p in
    let shaped = built_shaped b q w r.some in
    let bytes = all_bytes b p w in
    subst (λ a. Setting q w p.slots p.rules bytes a) (held_arcs q w (built b q w) shaped bytes refl) (setting r (held_formed q w (built b q w) shaped bytes refl) e)

pub going_start : {p : Problem} {coefs : List ℤ} {values : List ℕ} {b : Builder} {w z : ℕ} {bounds : State} {table : List ℤ} {arcs : List ℕ} {cells here spare row : List ℤ}
    → Ready p w → Tabled p coefs values → arcs_need (campaign_of p) w ≤ z
    → bounds ≡ padded 8 no_pair (bounds_at p.rules (leasts_in coefs) (mosts_in coefs)) → Reached (campaign_of p) table → arcs ≡ replicate z 0
    → length cells ≡ cells_need (campaign_of p) w → here ≡ row_vec (some (replicate p.rules origin, pos 0) ∷ []) → Spare spare → length row ≡ 72
    → Going p coefs values b w z bounds table arcs cells here spare row 1 true 0
going_start {p} {b = b} {w = w} {z = z} {arcs = arcs} r s need d t e l o k u =
    let sets = sets_long s in
    record {
      ready = r;
      tabled = s;
      need = need;
      ends = d ∙ ap (padded 8 no_pair) (bounds_said s);
      reached = t;
      building = building_start b (campaign_of p) (said_small p (right version1 p r.right)) w z arcs e;
      down = down_start (final b r sets) (l ∙ need_is r sets) o;
      room = k;
      slot = u;
    }

-- a part that was put there
part_put : (arcs y : List ℕ) (at n : ℕ) → at + n ≤ length arcs → length y ≡ n → take (at + n - at) (drop at (put arcs at n y)) ≡ y
part_put arcs y at n h e = part_is at n (put arcs at n y) ∙ ap (λ l. take n (drop at l)) (put_pastes arcs y at n e) ∙ part_pasted arcs at y n (omega arith) e

module _ {p : Problem} {coefs : List ℤ} {values : List ℕ} {b : Builder} {w z : ℕ} {bounds : State} {table : List ℤ} {arcs : List ℕ} {cells here spare row : List ℤ} {nodes : ℕ} {exact : Bool} {i : ℕ}
    (g : Going p coefs values b w z bounds table arcs cells here spare row nodes exact i) where
  abbrev size : ℕ
  size = w * (4 * p.rules + 3)

  small : Small (campaign_of p)
  small = said_small p (right version1 p g.ready.right)

  sets : length p.sets ≡ 24
  sets = sets_long g.tabled

  all : Setting (campaign_of p) w p.slots p.rules (all_bytes b p w) (all_arcs b (campaign_of p) w)
  all = final b g.ready sets

  all_slots : slots (campaign_of p) ≡ p.slots
  all_slots = slots_are g.ready sets

  pub going_long : length arcs ≡ z
  going_long = ap length g.building.bytes ∙ length-padded 0 z _

  going_here : Row here
  going_here = down_right all g.down

  -- what `put_downs` asks for
  pub going_downs : (p.rules ≤ 8) × (w ≤ 16) × Row here × (length (take (i * size + size - i * size) (drop (i * size) cells)) ≡ size)
  going_downs = (few_rules g.ready, g.ready.few, going_here, part_long (i * size) size cells (down_place all g.down))

  pub places_in : {k : ℕ} (last : Bool) → k ≡ cond last 1 w → (1 ≤ k) × (k ≤ 16)
  places_in {k} last e = go last e
    where
      go : (t : Bool) → k ≡ cond t 1 w → (1 ≤ k) × (k ≤ 16)
      go true f = (omega arith, omega arith)
      go false f = (omega (arith, g.ready.some), omega (arith, g.ready.few))

  -- and for the last layer
  pub going_downs_last : (p.rules ≤ 8) × (w ≤ 16) × Row here × (length (take (p.slots * size + size - p.slots * size) (drop (p.slots * size) cells)) ≡ size)
  going_downs_last = (few_rules g.ready, g.ready.few, going_here, part_long (p.slots * size) size cells (last_place all g.down.laid.long))

  -- after the last slot
  pub going_end : {y : List ℤ} → p.slots ≤ i → y ≡ flat (map (down_cells p.rules here) (from 0 w))
      → (arcs ≡ arc_bytes (campaign_of p) w z (built b (campaign_of p) w))
      × (put cells (p.slots * size) size y ≡ half_cells (campaign_of p) w (down_numbers (campaign_of p) (all_arcs b (campaign_of p) w)))
      × (exact ≡ is_exact b (campaign_of p) w)
  going_end h f =
      let both = building_end g.building small (omega (arith, all_slots)) in
      (both.0, down_end all (down_last all g.down h f), both.1)

  module _ (h : i < p.slots) where
    below : i < slots (campaign_of p)
    below = omega (arith, all_slots)

    -- the layer's part of the bytes
    pub going_room : i * (w * 8) + w * 8 ≤ length arcs
    going_room = omega (arith, going_long, building_room g.building small below g.ready.some g.ready.few g.need)

    -- what the calls ask for
    pub going_slot_row : (i < 24) × Each (Within 1000) (coefs_in coefs) × Within 10000 (get_or (weights_in coefs) i (pos 0)) × (length coefs ≡ 232) × (length values ≡ 216) × (length row ≡ 72)
    going_slot_row = slot_asks g.ready g.tabled i h row g.slot

    pub going_limit : Inside 10000000 bounds × Inside 10000000 (pairs_at table ((i + 1) * 17))
    going_limit = (
      rw g.ends (bounds_inside p (right version1 p g.ready.right)),
      inside_more 200000 10000000 (omega arith) (pairs_at table ((i + 1) * 17)) (g.reached.small (i + 1) (omega (arith, below))),
    )

    module _ {row' : List ℤ} (er : row' ≡ slot_lanes (take 8 (drop (i * 8) coefs)) (take 8 (drop (i * 8) values)) (get_or (weights_in coefs) i (pos 0))) where
      row_is : row' ≡ slot_vec (campaign_of p) i
      row_is = row_said g.ready g.tabled i h er

      pub row_long : length row' ≡ 72
      row_long = ap length row_is ∙ (slot_vec_lem (campaign_of p) small i).long

      pub going_layer : Held here row' × Totalled here nodes × (nodes * 8 ≤ length (take (i * (w * 8) + w * 8 - i * (w * 8)) (drop (i * (w * 8)) arcs)))
      going_layer =
          let b = building_held g.building small below g.ready.some g.ready.few here row' g.down.row going_here row_is in
          (b.0, b.1, omega (arith, part_long (i * (w * 8)) (w * 8) arcs going_room, building_few g.building small below g.ready.some g.ready.few))

      module _ {limit : State} {part : List ℕ} {count : ℕ} {one : Builder} {k : ℕ} (ek : limit ≡ lessened bounds (pairs_at table ((i + 1) * 17)))
          (eo : one ≡ cond (eqb (i + 1) p.slots) relaxed b) (ep : k ≡ cond (eqb (i + 1) p.slots) 1 w)
          (made_so : Made one k (map (arrival_at here row' (get_or values (192 + i) 0) limit) (from 0 (nodes * 8))) (take (i * (w * 8) + w * 8 - i * (w * 8)) (drop (i * (w * 8)) arcs)) part count) where
        made : Made (cond (eqb (i + 1) p.slots) relaxed b) (cond (eqb (i + 1) p.slots) 1 w) (map (arrival_at here row' (get_or values (192 + i) 0) limit) (from 0 (nodes * 8))) (take (i * (w * 8) + w * 8 - i * (w * 8)) (drop (i * (w * 8)) arcs)) part count
        made =
            let xs = map (arrival_at here row' (get_or values (192 + i) 0) limit) (from 0 (nodes * 8)) in
            let bytes = take (i * (w * 8) + w * 8 - i * (w * 8)) (drop (i * (w * 8)) arcs) in
            subst (λ (t : Builder). Made t (cond (eqb (i + 1) p.slots) 1 w) xs bytes part count) eo (subst (λ (n : ℕ). Made one n xs bytes part count) ep made_so)

        limit_is : limit ≡ lessened (padded 8 no_pair (bounds_in p)) (padded 8 no_pair (reaches (campaign_of p) (i + 1) (drop (i + 1) (campaign_of p).sets)))
        limit_is = ek ∙ (λ d. lessened (g.ends d) (g.reached.is (i + 1) (omega (arith, below)) d))

        set_is : get_or values (192 + i) 0 ≡ get_or (campaign_of p).sets i 0
        set_is = sym (slot_set p (right version1 p g.ready.right) g.tabled i h)

        last_is : eqb (i + 1) p.slots ≡ eqb (i + 1) (slots (campaign_of p))
        last_is = ap (eqb (i + 1)) (sym all_slots)

        layer : (length part ≡ w * 8) × (parted w 8 part ≡ get_or (all_arcs b (campaign_of p) w) i [])
        layer = building_bytes g.building small below g.ready.some g.ready.few g.need here row' (get_or values (192 + i) 0) (eqb (i + 1) p.slots) limit part count g.down.row row_is set_is last_is limit_is made

        abbrev arcs' : List ℕ
        arcs' = put arcs (i * (w * 8)) (w * 8) part

        part_there : take (i * (w * 8) + w * 8 - i * (w * 8)) (drop (i * (w * 8)) arcs') ≡ part
        part_there = part_put arcs part (i * (w * 8)) (w * 8) going_room layer.0

        -- what `next_down` asks for
        pub going_next : (w ≤ 16) × Slot row' × Row here × (drop (w * 17) here ≡ replicate ((16 - w) * 17) (pos 4000000))
            × (length (take (i * (w * 8) + w * 8 - i * (w * 8)) (drop (i * (w * 8)) arcs')) ≡ w * 8) × Each (λ b. b ≤ w) (take (i * (w * 8) + w * 8 - i * (w * 8)) (drop (i * (w * 8)) arcs')) × Spare spare
        going_next =
            let q = campaign_of p in
            let a = all_arcs b q w in
            let count = all.count in
            let rows : Each (Each (λ b. b ≤ w)) (parted w 8 part) = rw layer.1 (lower q small w a all.whole g.ready.some i (omega arith)) in
            let low : Each (λ b. b ≤ w) part = rw (parted_flat w 8 part layer.0) at (each_flat (λ b. b ≤ w) (parted w 8 part) rows) in (
              g.ready.few,
              slot_right all i row_is,
              going_here,
              down_rest all g.down,
              ap length part_there ∙ layer.0,
              rw part_there low,
              g.room,
            )

        pub going_more : {cells' here' spare' : List ℤ} {y : List ℤ} (n' : ℕ) (e' : Bool) → y ≡ flat (map (down_cells p.rules here) (from 0 w)) → cells' ≡ put cells (i * size) size y
            → here' ≡ bring_layer row' here 0 (parted w 8 (take (i * (w * 8) + w * 8 - i * (w * 8)) (drop (i * (w * 8)) arcs'))) (replicate 272 (pos 4000000)) → Spare spare'
            → n' ≡ min count w → e' ≡ (exact && (eqb (i + 1) p.slots || leb count w))
            → Going p coefs values b w z bounds table arcs' cells' here' spare' row' n' e' (i + 1)
        going_more {cells'} {here'} {spare'} {y} n' e' ey ec eh sp en ee =
            let same : parted w 8 (take (i * (w * 8) + w * 8 - i * (w * 8)) (drop (i * (w * 8)) arcs')) ≡ parted w 8 (part_of (all_bytes b p w) i (w * 8)) =
            ap (parted w 8) part_there ∙ layer.1 ∙ all.layer i h ∙ sym (ap (parted w 8) (part_is (i * (w * 8)) (w * 8) (all_bytes b p w))) in
            record {
              ready = g.ready;
              tabled = g.tabled;
              need = g.need;
              ends = g.ends;
              reached = g.reached;
              building =
                  building_more g.building small below g.ready.some g.ready.few g.need here row' (get_or values (192 + i) 0) (eqb (i + 1) p.slots) limit part count g.down.row row_is set_is last_is limit_is made n' e' en ee;
              down = subst (λ (c : List ℤ). Down (campaign_of p) w p.slots p.rules (all_arcs b (campaign_of p) w) c here' (i + 1)) (sym ec) (down_more all g.down h ey row_is (eh ∙ ap (λ (l : List (List ℕ)). bring_layer row' here 0 l (replicate 272 (pos 4000000))) same));
              room = sp;
              slot = row_long;
            }
