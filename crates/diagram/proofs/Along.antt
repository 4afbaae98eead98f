-- Do the cells lead along the plan shown? Each arc that the sweep leaves leads to a node that is present, whose cells hold its cost up.
use mathlib.Core.Path.{◌≡◌, refl, sym, ◌∙◌, ap, subst}
use mathlib.Core.List.{List, [], ◌∷◌, tail}
use mathlib.Core.Bool.{true, true≢false}
use mathlib.Core.Option.{none, some}
use Prim.Native.Nat.{ℕ, zero, suc, ◌+◌, ◌*◌, ◌-◌, ◌≤◌, ◌<◌}
use native.Mathlib.Omega.{arith}
use native.Mathlib.Nat.{zero-add, add-zero, suc-mul, add-mul, mul_assoc, mul-le-mul_right}
use native.Mathlib.Numerals.{add-one}
use borrow.Author.Tests.{eqb-true}
use lib.Dec.{eqb}
use lib.ListN.{length, get_or, take, drop, length-take, length-drop, get_or-map}
use lib.Seq.{drop-cons, get_or-drop, get_or-take}
use lib.IntN.{ℤ, pos, ◌*ℤ◌}
use Rattle.laws.specs.Z.{Within}
use Rattle.laws.proofs.Filled.{length-padded}
use Rattle.laws.proofs.Lists.{and_l, and_r}
use Rattle.laws.proofs.Each.{Each, each_at, each_below, each_more, each_take, each_drop}
use Rattle.meaning.specs.Plan.{Campaign, slots}
use Rattle.meaning.specs.Diagram.{State, Arcs}
use Rattle.meaning.specs.Filter.{Numbers, up_node, node_count, up_numbers, swept}
use Rattle.meaning.specs.Bound.{along, walks, arc_at, passes}
use Rattle.meaning.specs.Buffers.{cells_need, node_need, node_cells, number_cells}
use Rattle.meaning.proofs.Walks.{next, walk_there}
use Rattle.meaning.proofs.Keeps.{Cover, ups_cover}
use Rattle.meaning.proofs.Attains.{swept_arc}
use Rattle.lent.specs.Wide.{laid, Sized}
use Rattle.lent.specs.Small.{Small, Fit}
use Rattle.lent.specs.Led.{cost_of, first_step, first_ups, led}
use Rattle.lent.proofs.Led.{ups_at, Step, node_step}
use Rattle.lent.proofs.Shape.{Low, Shaped, form_low}
use Rattle.lent.proofs.Whole.{tail-drop}
use Rattle.lent.proofs.Brings.{Has, arc_brings}
use Rattle.lent.proofs.Table.{bytes_at}
use Rattle.diagram.specs.Leading.{first_cell, Led}
use Rattle.diagram.proofs.Cells.{down_at as down_of, up_at, cost_up, source_begins, down_fits, up_fits, cell_at, cells_inside}

-- ---- a node whose numbers cover a path has some
cover_has : (n : Numbers) (t : State) (c : ℤ) → Cover n t c → Has n
cover_has none t c h = absurd h
cover_has (some a) t c h = record { value = a; is = refl }

-- ---- up: what is left of a path behind an arc that it passes
record Rest (a : Arcs) (i j v : ℕ) : Type 0 where
  to : ℕ
  steps : List ℕ
  byte : arc_at a i j v ≡ suc to
  walk : walks (drop (suc i) a) to steps ≡ true

path_rest : (i j v : ℕ) (a : Arcs) (k : ℕ) (p : List ℕ) → walks a k p ≡ true → passes i j v a k p ≡ true → Rest a i j v
path_rest i j v [] k p w e = absurd (true≢false (sym e))
path_rest i j v (l ∷ ls) k [] w e = absurd (true≢false (sym e))
path_rest zero j v (l ∷ ls) k (u ∷ p) w e =
    let x = next (λ m. walks ls m p) (get_or (get_or l k []) u 0) w in
    let at : k ≡ j = eqb-true k j (and_l (eqb k j) (eqb u v) e) in
    let by : u ≡ v = eqb-true u v (and_r (eqb k j) (eqb u v) e) in
    record { to = x.to; steps = p; byte = rw (← at, ← by) x.byte; walk = x.on }
path_rest (suc i) j v (l ∷ ls) k (u ∷ p) w e =
    let x = next (λ m. walks ls m p) (get_or (get_or l k []) u 0) w in
    let r = path_rest i j v ls x.to p x.on (sym (ap (along (λ m. passes i j v ls m p)) x.byte) ∙ e) in
    record { to = r.to; steps = r.steps; byte = r.byte; walk = r.walk }

-- ---- so both numbers of a node pass to each child
record Child (q : Campaign) (a : Arcs) (i k : ℕ) : Type 0 where
  below : k < node_count (drop i a)
  down : Has (down_of q a i k)
  up : Has (up_at q a i k)

child : (q : Campaign) (b : Arcs) (i j v k : ℕ) → i < length (swept q b) → Has (down_of q (swept q b) i j) → arc_at (swept q b) i j v ≡ suc k → Child q (swept q b) (suc i) k
child q b i j v k h d e =
    let a = swept q b in
    let x = swept_arc q b i j v (omega arith) in
    let r = path_rest i j v a 0 x.steps x.is x.on in
    let same : r.to ≡ k = omega (arith, r.byte) in
    let walk : walks (drop (suc i) a) k r.steps ≡ true = rw same at r.walk in
    let below = walk_there (drop (suc i) a) k r.steps walk in
    let ups : get_or (up_numbers q a) (suc i) [] ≡ first_ups q (suc i) (drop (suc i) a) = rw (zero-add (suc i)) at (ups_at q 0 a (suc i) h) in
    let covers = ups_cover q (suc i) (drop (suc i) a) k r.steps walk in
    record {
      below = below;
      down = arc_brings q a i j v k h below e d;
      up = rw ups (cover_has (get_or (first_ups q (suc i) (drop (suc i) a)) k none) _ _ covers);
    }

-- ---- the first step by cells is the first by costs up
record Cell (us : List Numbers) (cells : List ℤ) (m k : ℕ) : Type 0 where
  cost : State × ℤ
  up : get_or us k none ≡ some cost
  cell : get_or cells (k * (4 * m + 3) + 4 * m + 2) (pos 0) ≡ cost.1

same_step : (q : Campaign) (i m : ℕ) (weight : ℤ) → ((v : ℕ) → q.price i v ≡ weight *ℤ pos v) → (us : List Numbers) (cells : List ℤ) (z : ℤ) (u : ℕ) (bs : List ℕ)
    → ((v k : ℕ) → get_or bs v 0 ≡ suc k → Cell us cells m k) → first_cell m weight cells z u bs ≡ first_step q i us z u bs
same_step q i m weight p us cells z u [] h = refl
same_step q i m weight p us cells z u (zero ∷ bs) h = same_step q i m weight p us cells z (suc u) bs (λ v. h (suc v))
same_step q i m weight p us cells z u (suc k ∷ bs) h =
    let c = h 0 k refl in
    rw (c.up, c.cell, p u, same_step q i m weight p us cells z (suc u) bs (λ v. h (suc v)))

-- ---- sizes
nodes_few : (k w : ℕ) → 1 ≤ w → (a : Arcs) → Sized k w a → (i : ℕ) → node_count (drop i a) ≤ w
nodes_few k w h [] s zero = h
nodes_few k w h [] s (suc i) = h
nodes_few k w h (l ∷ ls) s zero = s.0.0
nodes_few k w h (l ∷ ls) s (suc i) = nodes_few k w h ls s.1 i

pub led_long : (q : Campaign) (i : ℕ) (a : Arcs) (k : ℕ) → length (led q i a k) ≡ length a
led_long q i [] k = refl
led_long q i (l ∷ ls) k = ap suc (led_long q (suc i) ls _)

-- ---- along the plan: node j of layer i is present, and the steps from there are the plan's
pub record On (q : Campaign) (w : ℕ) (a : Arcs) (i j : ℕ) : Type 0 where
  pub below : j < w
  pub down : Has (down_of q a i j)
  pub up : Has (up_at q a i j)
  pub rest : drop i (led q 0 a 0) ≡ led q i (drop i a) j

-- a turn: the step is the plan's, its arc is there, and leads on
pub record Turn (q : Campaign) (w : ℕ) (a : Arcs) (arcs : List ℕ) (i at v : ℕ) : Type 0 where
  pub plan : v ≡ get_or (led q 0 a 0) i 0
  pub small : v < 8
  pub to : ℕ
  pub byte : get_or arcs (at + v) 0 ≡ suc to
  pub on : On q w a (i + 1) to

module _ (q : Campaign) (s : Small q) (w : ℕ) (wide : 1 ≤ w) (b : Arcs) (h : Shaped q w (swept q b)) where
  abbrev a : Arcs
  a = swept q b

  pub on_start : Has (up_at q a 0 0) → On q w a 0 0
  on_start u = record { below = wide; down = rw (source_begins q a) (record { value = _; is = refl }); up = u; rest = refl }

  -- the buffers
  module _ (arcs : List ℕ) (x : List ℤ) (z : ℕ) (arcs_are : arcs ≡ laid q.steps w a) (cells_are : x ≡ number_cells q w z a) (room : cells_need q w ≤ z) where
    abbrev k : ℕ
    k = node_need q

    -- a present node's cost up
    up_cell : (i j : ℕ) → i ≤ slots q → j < w → Has (down_of q a i j) → (u : Has (up_at q a i j)) → get_or x ((i * w + j) * k + 4 * length q.rules + 2) (pos 0) ≡ u.value.1
    up_cell i j e f d u =
        let m = 4 * length q.rules in
        let place : (i * w + j) * k + m + 2 ≡ (i * w + j) * k + (m + 2) = omega arith in
        ap (λ (y : List ℤ). get_or y ((i * w + j) * k + m + 2) (pos 0)) cells_are
        ∙ ap (λ (t : ℕ). get_or (number_cells q w z a) t (pos 0)) place
        ∙ cell_at q s w a h z room i j (m + 2) e f (omega arith)
        ∙ own (down_of q a i j) (up_at q a i j) d.is u.is (down_fits q s w a h i j) (up_fits q s w a h i j)
      where
        own : (d u : Numbers) {c e : State × ℤ} → d ≡ some c → u ≡ some e → Fit q i d → Fit q (length a - i) u → get_or (node_cells k d u) (4 * length q.rules + 2) (pos 0) ≡ e.1
        own d u {c} {e} f g fd fu = rw (f, g) (cost_up q i (length a - i) c e (subst (Fit q i) f fd) (subst (Fit q (length a - i)) g fu))

    -- a node on the way
    module _ (i j : ℕ) (inside : i < slots q) (on : On q w a i j) where
      abbrev l : List (List ℕ)
      l = get_or a i []

      abbrev ls : Arcs
      ls = drop (suc i) a

      there : i < length a
      there = omega (arith, h.long)

      parts : drop i a ≡ l ∷ ls
      parts = drop-cons a i [] there

      ups_are : (t : ℕ) → t ≤ length a → get_or (up_numbers q a) t [] ≡ first_ups q t (drop t a)
      ups_are t e = rw (zero-add t) at (ups_at q 0 a t e)

      own_up : get_or (first_ups q i (l ∷ ls)) j none ≡ some on.up.value
      own_up = ap (λ (m : Arcs). get_or (first_ups q i m) j none) (sym parts) ∙ ap (λ (us : List Numbers). get_or us j none) (sym (ups_are i (omega (arith, there)))) ∙ on.up.is

      way : Step q i l ls j on.up.value
      way = node_step q i l ls j own_up

      -- the node's cost up
      pub cost_is : get_or x ((i * w + j) * k + 4 * length q.rules + 2) (pos 0) ≡ on.up.value.1
      cost_is = up_cell i j (omega arith) on.below on.down on.up

      -- the next layer's cells
      abbrev y : List ℤ
      y = take (w * k) (drop ((i + 1) * (w * k)) x)

      child_cell : (v c : ℕ) → get_or (get_or l j []) v 0 ≡ suc c → Cell (first_ups q (suc i) ls) y (length q.rules) c
      child_cell v c e =
          let m = 4 * length q.rules in
          let n = child q b i j v c there on.down e in
          let few : c < w = omega (arith, n.below, nodes_few q.steps w wide a h.sized (suc i)) in
          let row : c * k + m + 2 < w * k = omega (arith, mul-le-mul_right k few, suc-mul c k) in
          let place : (i + 1) * (w * k) + (c * k + m + 2) ≡ (suc i * w + c) * k + m + 2 = rw (add-one i, add-mul (suc i * w) c k, mul_assoc (suc i) w k) (omega arith) in
          record {
            cost = n.up.value;
            up = ap (λ (us : List Numbers). get_or us c none) (sym (ups_are (suc i) there)) ∙ n.up.is;
            cell = get_or-take (w * k) (drop ((i + 1) * (w * k)) x) (c * k + m + 2) (pos 0) row ∙ get_or-drop ((i + 1) * (w * k)) x (c * k + m + 2) (pos 0)
                ∙ ap (λ (t : ℕ). get_or x t (pos 0)) place ∙ up_cell (suc i) c inside few n.down n.up;
          }

      -- the node's bytes
      bytes_are : take q.steps (drop ((i * w + j) * q.steps) arcs) ≡ get_or l j []
      bytes_are = ap (λ (y : List ℕ). take q.steps (drop ((i * w + j) * q.steps) y)) arcs_are ∙ bytes_at q.steps w a h.sized i j there way.there

      bytes_long : length (get_or l j []) ≡ q.steps
      bytes_long = each_below (λ (bs : List ℕ). length bs ≡ q.steps) l j [] way.there (each_at (λ (l : List (List ℕ)). (length l ≤ w) × Each (λ bs. length bs ≡ q.steps) l) a i [] (omega arith, tt) h.sized).1

      next_long : length y ≡ w * k
      next_long =
          let rows : suc (i + 1) * (w * k) ≤ suc (slots q) * (w * k) = mul-le-mul_right (w * k) (omega arith) in
          let need : cells_need q w ≡ suc (slots q) * (w * k) = mul_assoc (suc (slots q)) w k in
          let long : length x ≡ z = ap length cells_are ∙ length-padded (pos 0) z _ in
          omega (arith, length-take (w * k) (drop ((i + 1) * (w * k)) x), length-drop ((i + 1) * (w * k)) x, suc-mul (i + 1) (w * k))

      -- what the search for a step asks
      pub led_right : (weight : ℤ) → Within 10000 weight → (m : ℕ) → length q.rules ≡ m → Led m weight (take q.steps (drop ((i * w + j) * q.steps) arcs)) y
      led_right weight r m e = rw (← e, bytes_are) (record {
        few = s.rules;
        small = r;
        eight = bytes_long ∙ s.steps;
        there = each_more (λ b. b ≤ w) (λ b. b * k ≤ length y) (λ b f. omega (arith, mul-le-mul_right k f, next_long)) (get_or l j []) (each_at (Each (λ b. b ≤ w)) l j [] tt (each_at (Low w) a i [] tt (form_low w wide a h.form)));
        inside = each_take (Within 4000000) (w * k) (drop ((i + 1) * (w * k)) x) (each_drop (Within 4000000) ((i + 1) * (w * k)) x (rw cells_are (cells_inside q s w a h z room)));
      })

      -- the step that is found
      pub turn : (weight : ℤ) → ((v : ℕ) → q.price i v ≡ weight *ℤ pos v) → (m : ℕ) → length q.rules ≡ m → (z : ℤ) → z ≡ on.up.value.1 → (v : ℕ)
          → v ≡ first_cell m weight y z 0 (take q.steps (drop ((i * w + j) * q.steps) arcs)) → Turn q w a arcs i ((i * w + j) * q.steps) v
      turn weight p m e z c v f =
          let us = first_ups q (suc i) ls in
          let bs = get_or l j [] in
          let own : up_node q i us 0 bs ≡ some on.up.value = sym (get_or-map (up_node q i us 0) l j []) ∙ own_up in
          let led_step : first_step q i us z 0 bs ≡ way.step = ap (λ (t : ℤ). first_step q i us t 0 bs) (c ∙ sym (ap cost_of own)) ∙ way.is in
          let step : v ≡ way.step = f ∙ rw (← e, bytes_are) (same_step q i (length q.rules) weight p us y z 0 bs child_cell) ∙ led_step in
          let n = child q b i j way.step way.to there on.down way.byte in
          let rest : drop i (led q 0 a 0) ≡ way.step ∷ led q (suc i) ls way.to = on.rest ∙ ap (λ (m : Arcs). led q i m j) parts ∙ way.on in
          let at = (i * w + j) * q.steps in
          record {
            plan = step ∙ sym (ap (λ (t : List ℕ). get_or t 0 0) rest) ∙ get_or-drop i (led q 0 a 0) 0 0 ∙ ap (λ (n : ℕ). get_or (led q 0 a 0) n 0) (add-zero i);
            small = omega (arith, step, way.within, bytes_long, s.steps);
            to = way.to;
            byte = rw step (sym (get_or-drop at arcs way.step 0) ∙ sym (get_or-take q.steps (drop at arcs) way.step 0 (omega (arith, way.within, bytes_long))) ∙ ap (λ (t : List ℕ). get_or t way.step 0) bytes_are ∙ way.byte);
            on = rw (add-one i) (record {
              below = omega (arith, n.below, nodes_few q.steps w wide a h.sized (suc i));
              down = n.down;
              up = n.up;
              rest = sym (tail-drop i (led q 0 a 0)) ∙ ap tail rest;
            });
          }
