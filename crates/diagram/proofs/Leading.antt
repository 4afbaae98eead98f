-- How does the loop over the slots lead along the plan shown? Turn by turn, where the buffers hold the restricted diagram of a problem.
use mathlib.Core.Path.{◌≡◌, refl, sym, ◌∙◌, ap, subst}
use mathlib.Core.List.{List, ◌++◌}
use mathlib.Core.Option.{none, some}
use Prim.Native.Nat.{ℕ, suc, ◌+◌, ◌*◌, ◌-◌, ◌≤◌, ◌<◌}
use native.Mathlib.Omega.{arith}
use native.Mathlib.Nat.{zero-add, suc-mul, mul_comm, mul_assoc, mul-le-mul, mul-le-mul_right}
use native.Mathlib.Numerals.{add-one}
use lib.ListN.{length, get_or, set, take, drop}
use lib.Seq.{get_or-take, take_all, paste, paste-suc}
use lib.IntN.{ℤ, pos, ◌*ℤ◌}
use Rattle.laws.specs.Cells.{cell_below}
use Rattle.laws.proofs.Filled.{length-padded}
use Rattle.meaning.specs.Plan.{slots}
use Rattle.meaning.specs.Problem.{version1}
use Rattle.meaning.specs.Diagram.{restricted, built}
use Rattle.meaning.specs.Filter.{Numbers, on_path, restricted_arcs}
use Rattle.meaning.specs.Buffers.{cells_need}
use Rattle.meaning.proofs.Attains.{source_up}
use Rattle.problem.specs.declared.Problem.{Problem}
use Rattle.problem.specs.Held.{campaign_of}
use Rattle.problem.proofs.Faultless.{right}
use Rattle.slot.proofs.Said.{said_weight, rules_long}
use Rattle.lent.specs.Small.{Small}
use Rattle.lent.specs.Led.{led}
use Rattle.lent.proofs.Shape.{Shaped, built_shaped, drops_shaped}
use Rattle.numbers.proofs.Held.{held_long}
use Rattle.diagram.specs.Leading.{first_cell, Led, Leads}
use Rattle.diagram.proofs.Bounds.{source_none}
use Rattle.lent.proofs.Brings.{Has}
use Rattle.diagram.proofs.Along.{On, Turn, led_long, on_start, cost_is, led_right, turn}
use Rattle.diagram.proofs.Refused.{problem_small}

-- the plan that is shown
abbrev pub lead_of : Problem → ℕ → List ℕ
lead_of p w = led (campaign_of p) 0 (restricted_arcs (campaign_of p) w) 0

-- behind i slots: the first i steps are written, and node j of layer i is next
pub record Way (p : Problem) (w : ℕ) (plan₀ plan : List ℕ) (i j : ℕ) : Type 0 where
  pub few : i ≤ p.slots
  pub wrote : plan ≡ paste plan₀ 0 (lead_of p w) i
  pub on : On (campaign_of p) w (restricted_arcs (campaign_of p) w) i j

-- where its bytes, its cost and the next layer's cells are
abbrev pub Room : ℕ → ℕ → ℕ → ℕ → ℕ → ℕ → Type 0
Room m w i j bytes cells =
    (i < 24) × (m ≤ 8) × (i * w + j < 384) × ((i * w + j) * 8 + 8 ≤ bytes) × (bytes ≤ 3072) × ((i * w + j) * (4 * m + 3) + 4 * m + 2 < cells)
    × ((i + 1) * (w * (4 * m + 3)) + w * (4 * m + 3) ≤ cells) × (cells ≤ 14000)

part_is : {A : Type 0} (at n : ℕ) (l : List A) → take n (drop at l) ≡ take (at + n - at) (drop at l)
part_is at n l = let o : at + n - at ≡ n = omega arith in rw o

module _ {p : Problem} {w : ℕ} {arcs : List ℕ} {cells : List ℤ} (h : Leads p w arcs cells) where
  small : Small (campaign_of p)
  small = problem_small p h.ready.right

  shaped : Shaped (campaign_of p) w (restricted_arcs (campaign_of p) w)
  shaped =
      let q = campaign_of p in
      drops_shaped on_path q w (built restricted q w) (built_shaped restricted q w h.ready.some)

  pub way_start : (plan : List ℕ) → Way p w plan plan 0 0
  way_start plan =
      let q = campaign_of p in
      record { few = omega arith; wrote = refl; on = on_start q small w h.ready.some (built restricted q w) shaped (has (source_up q (restricted_arcs q w)) refl) }
    where
      has : (n : Numbers) → source_up (campaign_of p) (restricted_arcs (campaign_of p) w) ≡ n → Has (source_up (campaign_of p) (restricted_arcs (campaign_of p) w))
      has none e =
          let q = campaign_of p in
          absurd (h.present (source_none q small w h.ready.some (restricted_arcs q w) shaped (cells_need q w) (omega arith) cells h.cells_are e))
      has (some u) e = record { value = u; is = e }

  bytes_long : length arcs ≡ 8 * p.slots * w
  bytes_long = held_long (campaign_of p) w (restricted_arcs (campaign_of p) w) shaped arcs h.arcs_are ∙ ap (λ (n : ℕ). 8 * n * w) h.slots_are

  need : length cells ≡ cells_need (campaign_of p) w
  need = ap length h.cells_are ∙ length-padded (pos 0) (cells_need (campaign_of p) w) _

  cells_long : length cells ≡ suc p.slots * w * (4 * p.rules + 3)
  cells_long = need ∙ (λ t. suc (h.slots_are t) * w * (4 * rules_long p t + 3))

  pub sizes : (p.rules ≤ 8) × (w * (4 * p.rules + 3) ≤ 560)
  sizes =
      let rules : p.rules ≤ 8 = (right version1 p h.ready.right).head.rules in
      let node : 4 * p.rules + 3 ≤ 35 = omega arith in
      (rules, omega (arith, mul-le-mul h.ready.few node))

  plan_long : length (lead_of p w) ≡ p.slots
  plan_long = led_long (campaign_of p) 0 (restricted_arcs (campaign_of p) w) 0 ∙ shaped.long ∙ h.slots_are

  pub way_end : {plan₀ plan : List ℕ} {i j : ℕ} → Way p w plan₀ plan i j → p.slots ≤ i → plan ≡ lead_of p w ++ drop p.slots plan₀
  way_end {plan₀} {plan} {i} y e =
      let end : i ≡ p.slots = omega (arith, y.few) in
      y.wrote ∙ ap (paste plan₀ 0 (lead_of p w)) end ∙ rw (zero-add p.slots, take_all p.slots (lead_of p w) (omega (arith, plan_long))) refl

  module _ {plan₀ plan : List ℕ} {i j : ℕ} (y : Way p w plan₀ plan i j) (more : i < p.slots) where
    pub room : Room p.rules w i j (length arcs) (length cells)
    room =
        let n = p.slots in
        let k = 4 * p.rules + 3 in
        let head = (right version1 p h.ready.right).head in
        let slot : n ≤ 24 = head.most in
        let rules : p.rules ≤ 8 = head.rules in
        let wide : w ≤ 16 = h.ready.few in
        let below : j < w = y.on.below in
        let row : i ≤ 23 = omega arith in
        let all : 8 * n ≤ 192 = omega arith in
        let rows : suc n ≤ 25 = omega arith in
        let node : k ≤ 35 = omega arith in
        let turned : 8 * n * w ≡ n * w * 8 = mul_assoc 8 n w ∙ mul_comm 8 (n * w) in
        let layers : suc (i + 1) * (w * k) ≤ suc n * (w * k) = mul-le-mul_right (w * k) (omega arith) in
        let last : 7 < 8 = omega arith in
        let cost : 4 * p.rules + 2 < k = omega arith in
        let less : i < suc n = omega arith in (
          omega arith,
          rules,
          omega (arith, mul-le-mul row wide),
          omega (arith, bytes_long, cell_below 8 w n {i = i} {j = j} {v = 7} last below more),
          omega (arith, bytes_long, mul-le-mul all wide),
          omega (arith, cells_long, cell_below k w (suc n) {i = i} {j = j} {v = 4 * p.rules + 2} cost below less),
          omega (arith, cells_long, mul_assoc (suc n) w k, suc-mul (i + 1) (w * k)),
          omega (arith, cells_long, mul-le-mul (mul-le-mul rows wide) node),
        )

    inside : i < slots (campaign_of p)
    inside = omega (arith, h.slots_are)

    -- a node's cells by the rules of the problem
    rules_are : 4 * length (campaign_of p).rules + 3 ≡ 4 * p.rules + 3
    rules_are = ap (λ (m : ℕ). 4 * m + 3) (rules_long p)

    abbrev at : ℕ
    at = (i * w + j) * 8

    -- the next layer's cells, of nodes of k cells
    abbrev next_of : ℕ → List ℤ
    next_of k = take ((i + 1) * (w * k) + w * k - (i + 1) * (w * k)) (drop ((i + 1) * (w * k)) cells)

    module _ (weight : ℤ) (is : weight ≡ get_or p.weights i (pos 0)) where
      pub asks : Led p.rules weight (take (at + 8 - at) (drop at arcs)) (next_of (4 * p.rules + 3))
      asks =
          let q = campaign_of p in
          let k = 4 * length q.rules + 3 in
          subst (λ (k : ℕ). Led p.rules weight (take (at + 8 - at) (drop at arcs)) (next_of k)) rules_are
          (rw (← part_is at 8 arcs, ← part_is ((i + 1) * (w * k)) (w * k) cells)
          (led_right q small w h.ready.some (built restricted q w) shaped arcs cells (cells_need q w) h.arcs_are h.cells_are (omega arith) i j inside y.on
          weight (rw is (said_weight p (right version1 p h.ready.right) i more)) p.rules (rules_long p)))

      module _ (z : ℤ) (own : z ≡ get_or cells ((i * w + j) * (4 * p.rules + 3) + 4 * p.rules + 2) (pos 0)) (v : ℕ) (found : v ≡ first_cell p.rules weight (next_of (4 * p.rules + 3)) z 0 (take (at + 8 - at) (drop at arcs))) where
        pub taken : Turn (campaign_of p) w (restricted_arcs (campaign_of p) w) arcs i at v
        taken =
            let q = campaign_of p in
            let k = 4 * length q.rules + 3 in
            let cost = own ∙ ap (λ (m : ℕ). get_or cells ((i * w + j) * (4 * m + 3) + 4 * m + 2) (pos 0)) (sym (rules_long p)) in
            let part : next_of (4 * p.rules + 3) ≡ take (w * k) (drop ((i + 1) * (w * k)) cells) = ap next_of (sym rules_are) ∙ sym (part_is ((i + 1) * (w * k)) (w * k) cells) in
            let bytes = sym (part_is at 8 arcs) in
            let b = built restricted q w in
            let some = h.ready.some in
            turn q small w some b shaped arcs cells (cells_need q w) h.arcs_are h.cells_are (omega arith) i j inside y.on
            weight (λ v. ap (λ (t : ℤ). t *ℤ pos v) (get_or-take p.slots p.weights i (pos 0) more ∙ sym is)) p.rules (rules_long p)
            z (cost ∙ cost_is q small w some b shaped arcs cells (cells_need q w) h.arcs_are h.cells_are (omega arith) i j inside y.on)
            v (found ∙ (λ t. first_cell p.rules weight (part t) z 0 (bytes t)))

        pub way_next : p.slots ≤ length plan₀ → Way p w plan₀ (set plan i v) (i + 1) (get_or arcs (at + v) 0 - 1)
        way_next long =
            let t = taken in
            let to : get_or arcs (at + v) 0 - 1 ≡ t.to = omega (arith, t.byte) in
            let place : i ≡ 0 + i = sym (zero-add i) in
            let step = paste-suc plan₀ 0 (lead_of p w) i 0 (omega arith) (omega (arith, plan_long)) in
            record {
              few = omega arith;
              wrote = (λ d. set (y.wrote d) (place d) (t.plan d)) ∙ step ∙ ap (paste plan₀ 0 (lead_of p w)) (sym (add-one i));
              on = rw to t.on;
            }
