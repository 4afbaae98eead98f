-- `restrict` meets its contract: the buffers hold the diagram, the cells say the bound, and lead along the plan shown.
use mathlib.Core.Path.{◌≡◌, refl, sym, ap, ◌∙◌}
use mathlib.Core.List.{List, ◌++◌}
use Prim.Native.Nat.{ℕ, ◌-◌, ◌≤◌}
use native.Mathlib.Omega.{arith}
use borrow.Author.Rules.{rules}
use lib.ListN.{length, get_or, take, drop}
use lib.IntN.{ℤ, pos}
use mir.Syntax.{w32}
use mir.Val.{of_z}
use Rattle.laws.proofs.Filled.{length-padded}
use Rattle.meaning.specs.Problem.{version1}
use Rattle.meaning.specs.Diagram.{restricted, is_exact}
use Rattle.meaning.specs.Filter.{restricted_arcs}
use Rattle.meaning.specs.Bound.{shown}
use Rattle.meaning.specs.Buffers.{arcs_need, arc_bytes, cells_need, number_cells, plan_bytes}
use Rattle.meaning.specs.Calls.{bound_of}
use Rattle.meaning.proofs.Bounds.{primal_bound}
use Rattle.problem.specs.Held.{campaign_of}
use Rattle.problem.proofs.Faultless.{right}
use Rattle.lent.specs.Wide.{laid}
use Rattle.diagram.proofs.Refused.{slots_are, arcs_need_lem, cells_need_lem}
use Rattle.diagram.proofs.Rounds.{standing_whole}
use Rattle.diagram.proofs.Leading.{lead_of}
use Rattle.diagram.proofs.Served.{front_long, bytes_done, swept_formed, swept_half, swept_bytes, swept_numbers, restricted_shaped, lead_bytes, lead_cells, leads, part_long, cells_front, half_room, whole_room, cells_need_long, cells_done, first_there, bound_asks, bound_done, plan_led, plan_none, bits_zero}
use Rattle.diagram.proofs.restrict.Goals as goal
use Rattle.diagram.proofs.restrict.Goals.{After-slice_known-5-1, After-cells_need-numbers, Start, else-cells-ne0, then-cells-ne0}

pub arcs_need-bytes-requires : goal.arcs_need-bytes-requires
arcs_need-bytes-requires c =
    let o = c.requires.open in
    ((right version1 c.args.p o.ready.right).head.most, o.ready.few)

pub cells_need-numbers-requires : goal.cells_need-numbers-requires
cells_need-numbers-requires c =
    let o = c.requires.open in
    let head = (right version1 c.args.p o.ready.right).head in
    (head.most, head.rules, o.ready.few)

-- the needs are the campaign's
bytes_need : (c : After-cells_need-numbers) → c.arcs_need-bytes.result ≡ arcs_need (campaign_of c.args.p) c.args.w
bytes_need c = let o = c.requires.open in c.arcs_need-bytes.ensures ∙ arcs_need_lem c.args.p o.ready.right o.long c.args.w

numbers_need : (c : After-cells_need-numbers) → c.cells_need-numbers.result ≡ cells_need (campaign_of c.args.p) c.args.w
numbers_need c = let o = c.requires.open in c.cells_need-numbers.ensures ∙ cells_need_lem c.args.p o.ready.right o.long c.args.w

-- the buffers have room for them
bytes_room : (c : After-cells_need-numbers) → c.arcs_need-bytes.result ≤ length c.args.arcs.now
bytes_room c = omega (arith, bytes_need c, c.requires.open.bytes)

numbers_room : (c : After-cells_need-numbers) → c.cells_need-numbers.result ≤ length c.args.cells.now
numbers_room c = omega (arith, numbers_need c, c.requires.open.room)

pub put_parts-requires : goal.put_parts-requires
put_parts-requires c =
    let head = (right version1 c.args.p c.requires.open.ready.right).head in
    (head.most, head.rules, refl, refl)

pub slice_bounds-build-end : goal.slice_bounds-build-end
slice_bounds-build-end c = numbers_room (goal.at.slice_bounds-build-end c).After-cells_need-numbers

pub slice_bounds-zero_cells-count : goal.slice_bounds-zero_cells-count
slice_bounds-zero_cells-count c = let e = (goal.at.slice_bounds-zero_cells-count c).After-cells_need-numbers in let b = c.build-exact in half_room c.requires.open (numbers_need e) b.new.cells b.auto.cells

pub slice_bounds-zero_cells-start : goal.slice_bounds-zero_cells-start
slice_bounds-zero_cells-start c = let e = (goal.at.slice_bounds-zero_cells-start c).After-cells_need-numbers in let b = c.build-exact in half_room c.requires.open (numbers_need e) b.new.cells b.auto.cells

pub slice_bounds-build-end-2 : goal.slice_bounds-build-end-2
slice_bounds-build-end-2 c = let e = (goal.at.slice_bounds-build-end-2 c).After-cells_need-numbers in sym (part_long (e.requires.open) (numbers_need e))

pub build-exact-requires : goal.build-exact-requires
build-exact-requires c =
    let e = (goal.at.build-exact-requires c).After-cells_need-numbers in
    let o = e.requires.open in
    (o.ready.right, o.ready.some, o.ready.few, o.bytes, part_long o (numbers_need e) ∙ numbers_need e, c.put_parts.ensures)

pub offset_bounds-cells-numbers : goal.offset_bounds-cells-numbers
offset_bounds-cells-numbers c = let e = (goal.at.offset_bounds-cells-numbers c).After-cells_need-numbers in let room = numbers_room e in search rules

pub slice_bounds-sweep-end-2 : goal.slice_bounds-sweep-end-2
slice_bounds-sweep-end-2 c = let e = (goal.at.slice_bounds-sweep-end-2 c).After-cells_need-numbers in front_long (e.requires.open) (bytes_need e) restricted _ c.build-exact.ensures.arcs

pub slice_bounds-sweep-end-3 : goal.slice_bounds-sweep-end-3
slice_bounds-sweep-end-3 c = let e = (goal.at.slice_bounds-sweep-end-3 c).After-cells_need-numbers in let b = c.build-exact in whole_room c.requires.open (numbers_need e) b.new.cells b.auto.cells _

pub slice_bounds-sweep-end-4 : goal.slice_bounds-sweep-end-4
slice_bounds-sweep-end-4 c = let e = (goal.at.slice_bounds-sweep-end-4 c).After-cells_need-numbers in let b = c.build-exact in cells_need_long (e.requires.open) (numbers_need e) b.new.cells b.auto.cells _

pub sweep-requires : goal.sweep-requires
sweep-requires c =
    let e = (goal.at.sweep-requires c).After-cells_need-numbers in
    let a = c.args in
    let o = e.requires.open in
    let b = c.build-exact in
    let room = cells_need_long o (numbers_need e) b.new.cells b.auto.cells _ in
    (o.ready, c.put_parts.ensures, swept_formed o (bytes_need e) _ b.ensures.arcs, sym room ∙ numbers_need e, standing_whole (omega (arith, slots_are a.p o.ready.right o.long)) (cells_front o (numbers_need e) b.new.cells b.auto.cells _ ∙ swept_half o (bytes_need e) _ b.ensures.arcs b.ensures.cells))

-- ---- behind the sweep: the fronts of both buffers, and the cells as a whole
abbrev past : After-slice_known-5-1 → After-cells_need-numbers
past c = (goal.at.After-slice_known-5-1 c).After-cells_need-numbers

abbrev start : After-slice_known-5-1 → Start
start c = (goal.at.After-cells_need-numbers (past c)).Start

abbrev front_bytes : After-slice_known-5-1 → List ℕ
front_bytes c = c.sweep.new.arcs

abbrev back_bytes : After-slice_known-5-1 → List ℕ
back_bytes c = drop (past c).arcs_need-bytes.result c.build-exact.new.arcs

abbrev front_cells : After-slice_known-5-1 → List ℤ
front_cells c = c.sweep.new.cells

abbrev back_cells : After-slice_known-5-1 → List ℤ
back_cells c =
    let n = (past c).cells_need-numbers.result in
    let x = c.build-exact.new.cells ++ drop n (start c).args.cells.now in
    drop n (take n x ++ (c.zero_cells.new.cells ++ drop (length x - n) (drop n x)))

front_bytes_lem : (c : After-slice_known-5-1) → front_bytes c ≡ laid 8 (start c).args.w (restricted_arcs (campaign_of (start c).args.p) (start c).args.w)
front_bytes_lem c =
    let e = past c in
    swept_bytes (e.requires.open) (bytes_need e) _ c.build-exact.ensures.arcs c.sweep.ensures.arcs

front_cells_lem : (c : After-slice_known-5-1)
    → (let a = (start c).args in
    front_cells c ≡ number_cells (campaign_of a.p) a.w (cells_need (campaign_of a.p) a.w) (restricted_arcs (campaign_of a.p) a.w))
front_cells_lem c =
    let e = past c in
    let o = e.requires.open in
    let b = c.build-exact in
    let sw = c.sweep in
    swept_numbers o (bytes_need e) _ b.ensures.arcs _ sw.ensures.cells (sw.auto.cells ∙ sym (cells_need_long o (numbers_need e) b.new.cells b.auto.cells _) ∙ numbers_need e)

whole_bytes : (c : After-slice_known-5-1)
    → (let a = (start c).args in
    front_bytes c ++ back_bytes c ≡ arc_bytes (campaign_of a.p) a.w (length a.arcs.now) (restricted_arcs (campaign_of a.p) a.w))
whole_bytes c =
    let e = past c in
    let o = e.requires.open in
    bytes_done o (bytes_need e) restricted _ c.build-exact.ensures.arcs _ (restricted_shaped o) (front_bytes c) (front_bytes_lem c)

whole_cells : (c : After-slice_known-5-1)
    → (let a = (start c).args in
    front_cells c ++ back_cells c ≡ number_cells (campaign_of a.p) a.w (length a.cells.now) (restricted_arcs (campaign_of a.p) a.w))
whole_cells c =
    let e = past c in
    let o = e.requires.open in
    let b = c.build-exact in
    cells_done o (numbers_need e) b.new.cells b.auto.cells _ (restricted_shaped o) _ (front_cells c) c.zero_cells.ensures (front_cells_lem c)

-- both are as long as they came
bytes_long : (c : After-slice_known-5-1) → length (front_bytes c ++ back_bytes c) ≡ length (start c).args.arcs.now
bytes_long c = ap length (whole_bytes c) ∙ length-padded 0 _ _

cells_long : (c : After-slice_known-5-1) → length (front_cells c ++ back_cells c) ≡ length (start c).args.cells.now
cells_long c = ap length (whole_cells c) ∙ length-padded (pos 0) _ _

pub slice_copy_out-t-35 : goal.slice_copy_out-t-35
slice_copy_out-t-35 c = let o = (past c).requires.open in first_there o _ (restricted_shaped o) _ (whole_cells c)

pub slice_bounds-lead-end : goal.slice_bounds-lead-end
slice_bounds-lead-end c = let k = (goal.at.slice_bounds-lead-end c).After-slice_known-5-1 in omega (arith, bytes_long k, bytes_room (past k))

pub slice_bounds-lead-end-then-cells-ne0 : goal.slice_bounds-lead-end-then-cells-ne0
slice_bounds-lead-end-then-cells-ne0 c =
    let k = (goal.at.slice_bounds-lead-end-then-cells-ne0 c).After-slice_known-5-1 in
    let e = past k in
    lead_bytes (e.requires.open) (bytes_need e) (numbers_need e) (front_bytes k) _ (front_bytes_lem k) (front_cells k) (back_cells k) (front_cells_lem k)

pub slice_bounds-lead-end-then-cells-ne0-2 : goal.slice_bounds-lead-end-then-cells-ne0-2
slice_bounds-lead-end-then-cells-ne0-2 c = let k = (goal.at.slice_bounds-lead-end-then-cells-ne0-2 c).After-slice_known-5-1 in omega (arith, cells_long k, numbers_room (past k))

pub slice_bounds-lead-end-then-cells-ne0-3 : goal.slice_bounds-lead-end-then-cells-ne0-3
slice_bounds-lead-end-then-cells-ne0-3 c =
    let k = (goal.at.slice_bounds-lead-end-then-cells-ne0-3 c).After-slice_known-5-1 in
    let e = past k in
    lead_cells (e.requires.open) (bytes_need e) (numbers_need e) (front_bytes k) (front_bytes k) (front_bytes_lem k) (front_cells k) (back_cells k) (front_cells_lem k)

pub lead-requires : goal.lead-requires
lead-requires c =
    let k = (goal.at.lead-requires c).After-slice_known-5-1 in
    let e = past k in
    let present : get_or (front_cells k ++ back_cells k) 0 (pos 0) ≡ pos 0 → ⊥ = λ z. c.if-cells-ne0.true (ap (of_z w32) z) in
    let t = c.put_parts.ensures in
    (leads (e.requires.open) (bytes_need e) (numbers_need e) (front_bytes k) _ (front_bytes_lem k) (front_cells k) (back_cells k) (front_cells_lem k) present, t.weights_are, t.long, omega (arith, c.fill.auto.self, e.requires.plan))

pub bound_of-requires : goal.bound_of-requires
bound_of-requires c =
    let k = (goal.at.bound_of-requires c).After-slice_known-5-1 in
    let o = (past k).requires.open in
    bound_asks o _ (restricted_shaped o) _ (whole_cells k)

pub shape_of-arcs : goal.shape_of-arcs
shape_of-arcs c = bytes_long (goal.at.shape_of-arcs c).After-slice_known-5-1

pub shape_of-cells : goal.shape_of-cells
shape_of-cells c = cells_long (goal.at.shape_of-cells c).After-slice_known-5-1

pub shape_of-plan : goal.shape_of-plan
shape_of-plan c =
    let z = c.fill in
    elim c.if-cells-ne0.branch [
      | then-cells-ne0 w ↦ ap length w.plan-is ∙ w.lead.auto.plan ∙ z.auto.self
      | else-cells-ne0 w ↦ ap length w.plan-is ∙ z.auto.self
    ]

pub returns : goal.returns
returns c =
    let k = (goal.at.returns c).After-slice_known-5-1 in
    let e = past k in
    let s = start k in
    let a = s.args in
    let o = e.requires.open in
    let q = campaign_of a.p in
    let w = a.w in
    let z = c.fill in
    let b = c.build-exact in
    let shaped = restricted_shaped o in
    let x = whole_cells k in
    let count = length a.plan.now in
    let first = get_or (front_cells k ++ back_cells k) 0 (pos 0) in
    let y = whole_bytes k in
    let p : c.if-cells-ne0.plan ≡ plan_bytes count (shown q w) = elim c.if-cells-ne0.branch [
      | then-cells-ne0 t ↦ plan_led o _ x _ count (λ i. t.if-cells-ne0.true (ap (of_z w32) {x = first} {y = pos 0} i)) e.requires.plan (t.plan-is ∙ t.lead.ensures ∙ ap (λ (l : List ℕ). lead_of a.p w ++ drop a.p.slots l) (z.ensures.after (λ y e. e)))
      | else-cells-ne0 t ↦ plan_none o _ x _ count (bits_zero first c.t35-1.given t.if-cells-ne0.false) (t.plan-is ∙ (z.ensures.after (λ y e. e)))
    ] in
    record { value = c.bound_of.ensures ∙ bound_done o _ shaped _ x b.ensures.exact ∙ ap (λ t. bound_of t (is_exact restricted q w)) (sym (primal_bound q w)); arcs = y; cells = x; plan = p }
