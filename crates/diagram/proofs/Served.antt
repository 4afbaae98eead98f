-- What stands in the lent buffers, and what is answered, when a builder is done?
use mathlib.Core.Path.{◌≡◌, refl, sym, ◌∙◌, ap}
use mathlib.Core.List.{List, [], ◌++◌, append-nil}
use mathlib.Core.Bool.{Bool}
use mathlib.Core.Option.{none, some}
use Prim.Native.Nat.{ℕ, suc, ◌+◌, ◌*◌, ◌-◌, ◌^◌, ◌≤◌, ◌<◌}
use native.Mathlib.Omega.{arith}
use lib.ListN.{length, get_or, take, drop, replicate, length-append, length-drop, drop_of_length-le}
use lib.Seq.{take_at, drop_at, get_or-take, length-take-le}
use lib.IntN.{ℤ, pos}
use lib.Signed.{mag}
use mir.Syntax.{w32}
use mir.Val.{of_z}
use Rattle.laws.specs.Z.{zarith, bits_eq}
use Rattle.laws.specs.Lists.{padded}
use Rattle.laws.specs.Cells.{cell_below}
use Rattle.laws.proofs.Filled.{length-padded, padded_none, take-padded}
use Rattle.meaning.specs.Plan.{slots}
use Rattle.meaning.specs.Diagram.{Builder, restricted, Arcs, built}
use Rattle.meaning.specs.Problem.{version1}
use Rattle.meaning.specs.Filter.{Numbers, down_numbers, up_numbers, on_path, swept, restricted_arcs}
use Rattle.meaning.specs.Bound.{bound, shown}
use Rattle.meaning.specs.Buffers.{arcs_need, arcs_in, arc_bytes, cells_need, node_need, all_cells, number_cells, plan_bytes}
use Rattle.meaning.specs.Calls.{bound_of}
use Rattle.meaning.proofs.Attains.{source_up}
use Rattle.problem.specs.declared.Problem.{Problem}
use Rattle.problem.specs.Held.{campaign_of}
use Rattle.problem.proofs.Faultless.{right}
use Rattle.slot.proofs.Said.{rules_long}
use Rattle.slot.proofs.Laid.{front_put}
use Rattle.diagram.specs.Open.{Open}
use Rattle.lent.specs.Wide.{wide, laid}
use Rattle.lent.specs.Small.{Small}
use Rattle.lent.proofs.Led.{shown_led, shown_none}
use Rattle.lent.proofs.Shape.{Shaped, built_shaped, drops_shaped}
use Rattle.numbers.specs.Whole.{Formed, half_cells}
use Rattle.numbers.proofs.Held.{held_long, held_formed}
use Rattle.diagram.specs.Answers.{bound_said}
use Rattle.diagram.specs.Leading.{Leads}
use Rattle.diagram.proofs.Rounds.{held_half, held_drops, held_swept}
use Rattle.diagram.proofs.Cells.{cells_behind}
use Rattle.diagram.proofs.Bounds.{bound_cells, source_none, source_some}
use Rattle.diagram.proofs.Along.{led_long}
use Rattle.diagram.proofs.Refused.{problem_small, slots_are, cells_need_lem}
use Rattle.diagram.proofs.Leading.{lead_of}

module _ {p : Problem} {w : ℕ} {arcs : List ℕ} {cells : List ℤ} (o : Open p w arcs cells) where
  small : Small (campaign_of p)
  small = problem_small p o.ready.right

  -- ---- the bytes: built in the whole buffer, then the front
  module _ {n : ℕ} (need : n ≡ arcs_need (campaign_of p) w) (b : Builder) (x : List ℕ) (is : x ≡ arc_bytes (campaign_of p) w (length arcs) (built b (campaign_of p) w)) where
    built_long : length (laid 8 w (built b (campaign_of p) w)) ≡ arcs_need (campaign_of p) w
    built_long = held_long (campaign_of p) w (built b (campaign_of p) w) (built_shaped b (campaign_of p) w o.ready.some) (laid 8 w (built b (campaign_of p) w)) refl

    pub bytes_front : take n x ≡ laid 8 w (built b (campaign_of p) w)
    bytes_front =
        let l = laid 8 w (built b (campaign_of p) w) in
        (λ i. take ((need ∙ sym built_long) i) (is i)) ∙ take-padded 0 (length arcs) l (omega (arith, built_long, o.bytes))

    pub front_long : n ≡ length (take n x)
    front_long = need ∙ sym (ap length bytes_front ∙ built_long)

    pub bytes_done : (a : Arcs) → Shaped (campaign_of p) w a → (y : List ℕ) → y ≡ laid 8 w a → y ++ drop n x ≡ arc_bytes (campaign_of p) w (length arcs) a
    bytes_done a h y e =
        let own : length y ≡ arcs_need (campaign_of p) w = held_long (campaign_of p) w a h y e in
        let l = laid 8 w (built b (campaign_of p) w) in
        (λ i. y ++ drop ((need ∙ sym own) i) (is i)) ∙ front_put 0 (length arcs) l y (omega (arith, own, built_long)) (omega (arith, own, o.bytes)) ∙ ap (padded (length arcs) 0) e

  -- ---- the sweep of the restricted diagram
  module _ {n : ℕ} (need : n ≡ arcs_need (campaign_of p) w) (x : List ℕ) (is : x ≡ arc_bytes (campaign_of p) w (length arcs) (built restricted (campaign_of p) w)) where
    start : Shaped (campaign_of p) w (built restricted (campaign_of p) w)
    start = built_shaped restricted (campaign_of p) w o.ready.some

    pub swept_formed : Formed (campaign_of p) w (take n x)
    swept_formed = held_formed (campaign_of p) w (built restricted (campaign_of p) w) start (take n x) (bytes_front need restricted x is)

    pub swept_half : {y : List ℤ} → y ≡ half_cells (campaign_of p) w (down_numbers (campaign_of p) (wide 8 w (built restricted (campaign_of p) w)))
        → y ≡ half_cells (campaign_of p) w (down_numbers (campaign_of p) (arcs_in (campaign_of p) w (take n x)))
    swept_half e = held_half (campaign_of p) w (built restricted (campaign_of p) w) start (take n x) (bytes_front need restricted x is) e

    pub swept_bytes : {y : List ℕ} → y ≡ laid 8 w (swept (campaign_of p) (arcs_in (campaign_of p) w (take n x))) → y ≡ laid 8 w (restricted_arcs (campaign_of p) w)
    swept_bytes e = held_drops (campaign_of p) w (built restricted (campaign_of p) w) start (take n x) (bytes_front need restricted x is) on_path e

    pub swept_numbers : (y : List ℤ) → y ≡ all_cells (node_need (campaign_of p)) w (down_numbers (campaign_of p) (arcs_in (campaign_of p) w (take n x))) (up_numbers (campaign_of p) (arcs_in (campaign_of p) w (take n x)))
        → length y ≡ cells_need (campaign_of p) w → y ≡ number_cells (campaign_of p) w (cells_need (campaign_of p) w) (restricted_arcs (campaign_of p) w)
    swept_numbers y e long =
        held_swept (campaign_of p) w (built restricted (campaign_of p) w) start (take n x) (bytes_front need restricted x is) y e (cells_need (campaign_of p) w) long

  pub restricted_shaped : Shaped (campaign_of p) w (restricted_arcs (campaign_of p) w)
  restricted_shaped =
      let q = campaign_of p in
      drops_shaped on_path q w (built restricted q w) (built_shaped restricted q w o.ready.some)

  -- the cells are some
  some_cells : 0 < cells_need (campaign_of p) w
  some_cells =
      let q = campaign_of p in
      let one : 0 < node_need q = omega arith in
      let slot : 0 < suc (slots q) = omega arith in
      omega (arith, cell_below (node_need q) w (suc (slots q)) {i = 0} {j = 0} {v = 0} one o.ready.some slot)

  -- what the way along the plan asks of the fronts y and v
  module _ {n k : ℕ} (need : n ≡ arcs_need (campaign_of p) w) (needs : k ≡ cells_need (campaign_of p) w) (y r : List ℕ) (is : y ≡ laid 8 w (restricted_arcs (campaign_of p) w))
      (v u : List ℤ) (are : v ≡ number_cells (campaign_of p) w (cells_need (campaign_of p) w) (restricted_arcs (campaign_of p) w)) where
    bytes_long : length y ≡ n
    bytes_long = held_long (campaign_of p) w (restricted_arcs (campaign_of p) w) restricted_shaped y is ∙ sym need

    cells_long : length v ≡ k
    cells_long = ap length are ∙ length-padded (pos 0) (cells_need (campaign_of p) w) _ ∙ sym needs

    pub lead_bytes : n ≡ length (take n (y ++ r))
    lead_bytes = sym (ap length (take_at y r n bytes_long) ∙ bytes_long)

    pub lead_cells : k ≡ length (take k (v ++ u))
    lead_cells = sym (ap length (take_at v u k cells_long) ∙ cells_long)

    pub leads : (get_or (v ++ u) 0 (pos 0) ≡ pos 0 → ⊥) → Leads p w (take n (y ++ r)) (take k (v ++ u))
    leads f = record {
      ready = o.ready;
      slots_are = slots_are p o.ready.right o.long;
      arcs_are = take_at y r n bytes_long ∙ is;
      cells_are = take_at v u k cells_long ∙ are;
      present = λ e. f (sym (get_or-take k (v ++ u) 0 (pos 0) (omega (arith, some_cells))) ∙ e);
    }

  -- ---- the cells: the need's part is lent, and d is left there; then zeros behind it; then the numbers before them
  module _ {n : ℕ} (need : n ≡ cells_need (campaign_of p) w) where
    pub part_long : length (take n cells) ≡ n
    part_long = length-take-le n cells (omega (arith, o.room))

    module _ (d : List ℤ) (own : length d ≡ length (take n cells)) where
      abbrev half : List ℤ
      half = d ++ drop n cells

      long : length d ≡ n
      long = own ∙ part_long

      half_front : take n half ≡ d
      half_front = take_at d (drop n cells) n long

      pub cells_front : (rest : List ℤ) → take n (take n half ++ rest) ≡ d
      cells_front rest = take_at (take n half) rest n (ap length half_front ∙ long) ∙ half_front

      pub half_room : n ≤ length half
      half_room = omega (arith, length-append d (drop n cells), long)

      pub whole_room : (rest : List ℤ) → n ≤ length (take n half ++ rest)
      whole_room rest = omega (arith, length-append (take n half) rest, ap length half_front, long)

      pub cells_need_long : (rest : List ℤ) → n ≡ length (take n (take n half ++ rest))
      cells_need_long rest = sym (ap length (cells_front rest) ∙ long)

      pub cells_done : (a : Arcs) → Shaped (campaign_of p) w a → (zs y : List ℤ) → zs ≡ replicate (length (take (length half - n) (drop n half))) (pos 0)
          → y ≡ number_cells (campaign_of p) w (cells_need (campaign_of p) w) a
          → y ++ drop n (take n half ++ (zs ++ drop (length half - n) (drop n half))) ≡ number_cells (campaign_of p) w (length cells) a
      cells_done a h zs y zeros is =
          let z = length half - n in
          let r = drop n half in
          let left : z ≡ length cells - n = omega (arith, length-append d (drop n cells), length-drop n cells, long, o.room) in
          let gone : drop z r ≡ [] = drop_of_length-le r {i = z} (omega (arith, length-drop n half)) in
          let count : length (take z r) ≡ z = length-take-le z r (omega (arith, length-drop n half)) in
          let rest : drop n (take n half ++ (zs ++ drop z r)) ≡ replicate (length cells - cells_need (campaign_of p) w) (pos 0) =
          drop_at (take n half) (zs ++ drop z r) n (ap length half_front ∙ long)
          ∙ ap (λ (l : List ℤ). zs ++ l) gone ∙ append-nil zs ∙ zeros ∙ ap (λ (k : ℕ). replicate k (pos 0)) (count ∙ left ∙ ap (λ (m : ℕ). length cells - m) need) in
          (λ i. is i ++ rest i) ∙ sym (cells_behind (campaign_of p) small w a h (length cells) o.room)

  module _ (a : Arcs) (h : Shaped (campaign_of p) w a) where
    bound_long : (x : List ℤ) → x ≡ number_cells (campaign_of p) w (length cells) a → length x ≡ length cells
    bound_long x is = ap length is ∙ length-padded (pos 0) (length cells) _

    -- ---- the bound that stands there
    pub bound_done : (x : List ℤ) → x ≡ number_cells (campaign_of p) w (length cells) a → {t u : Bool} → t ≡ u
        → bound_said (get_or x 0 (pos 0)) (get_or x (p.slots * w * (4 * p.rules + 3) + 4 * p.rules + 1) (pos 0)) t ≡ bound_of (bound (campaign_of p) a) u
    bound_done x is {t} {u} e =
        let slot = sym (slots_are p o.ready.right o.long) in
        let rule = sym (rules_long p) in
        let at : p.slots * w * (4 * p.rules + 3) + 4 * p.rules + 1 ≡ slots (campaign_of p) * w * (4 * length (campaign_of p).rules + 3) + 4 * length (campaign_of p).rules + 1 = λ i. slot i * w * (4 * rule i + 3) + 4 * rule i + 1 in
        ap (λ (k : ℕ). bound_said (get_or x 0 (pos 0)) (get_or x k (pos 0)) t) at
        ∙ sym (bound_cells (campaign_of p) small w o.ready.some a h (length cells) o.room x is t) ∙ ap (λ (b : Bool). bound_of (bound (campaign_of p) a) b) e

    pub first_there : (x : List ℤ) → x ≡ number_cells (campaign_of p) w (length cells) a → 0 < length x
    first_there x is = omega (arith, bound_long x is, some_cells, o.room)

    pub bound_asks : (x : List ℤ) → x ≡ number_cells (campaign_of p) w (length cells) a → (p.slots ≤ 24) × (p.rules ≤ 8) × (1 ≤ w) × (w ≤ 16) × ((p.slots + 1) * w * (4 * p.rules + 3) ≤ length x)
    bound_asks x is =
        let head = (right version1 p o.ready.right).head in
        let enough : (p.slots + 1) * w * (4 * p.rules + 3) ≤ length x = omega (arith, bound_long x is, o.room, cells_need_lem p o.ready.right o.long w) in
        (head.most, head.rules, o.ready.some, o.ready.few, enough)

  -- ---- the plan shown
  module _ (x : List ℤ) (is : x ≡ number_cells (campaign_of p) w (length cells) (restricted_arcs (campaign_of p) w)) (r : List ℕ) (z : ℕ) where
    pub plan_led : (get_or x 0 (pos 0) ≡ pos 0 → ⊥) → p.slots ≤ z → r ≡ lead_of p w ++ drop p.slots (replicate z 0) → r ≡ plan_bytes z (shown (campaign_of p) w)
    plan_led f room e = go (source_up (campaign_of p) (restricted_arcs (campaign_of p) w)) refl
      where
        go : (u : Numbers) → source_up (campaign_of p) (restricted_arcs (campaign_of p) w) ≡ u → r ≡ plan_bytes z (shown (campaign_of p) w)
        go none g =
            let q = campaign_of p in
            absurd (f (source_none q small w o.ready.some (restricted_arcs q w) restricted_shaped (length cells) o.room x is g))
        go (some u) g =
            let q = campaign_of p in
            let l = lead_of p w in
            let long : length l ≡ p.slots = led_long q 0 (restricted_arcs q w) 0 ∙ restricted_shaped.long ∙ slots_are p o.ready.right o.long in
            e ∙ (λ i. l ++ drop (sym long i) (sym (padded_none 0 z) i)) ∙ front_put 0 z [] l (omega arith) (omega (arith, long)) ∙ ap (plan_bytes z) (sym (shown_led q w g))

    pub plan_none : get_or x 0 (pos 0) ≡ pos 0 → r ≡ replicate z 0 → r ≡ plan_bytes z (shown (campaign_of p) w)
    plan_none f e = go (source_up (campaign_of p) (restricted_arcs (campaign_of p) w)) refl
      where
        go : (u : Numbers) → source_up (campaign_of p) (restricted_arcs (campaign_of p) w) ≡ u → r ≡ plan_bytes z (shown (campaign_of p) w)
        go none g = e ∙ sym (padded_none 0 z) ∙ ap (plan_bytes z) (sym (shown_none (campaign_of p) w g))
        go (some u) g =
            let q = campaign_of p in
            let one = source_some q small w o.ready.some (restricted_arcs q w) restricted_shaped (length cells) o.room x is g in
            let no : pos 0 ≡ pos 1 = sym f ∙ one in
            absurd (omega zarith)

-- a number whose bits are zero is zero
pub bits_zero : (z : ℤ) → mag z < 2 ^ 31 → of_z w32 z ≡ 0 → z ≡ pos 0
bits_zero z h e = bits_eq {a = z} {b = pos 0} (record { sfits = h }) (record { sfits = omega arith }) e
