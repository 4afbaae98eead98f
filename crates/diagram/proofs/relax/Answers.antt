-- `relax` meets its contract: the buffers hold the diagram, and the cells say the bound.
use mathlib.Core.Path.{◌≡◌, sym, ap, ◌∙◌}
use Prim.Native.Nat.{◌≤◌}
use native.Mathlib.Omega.{arith}
use borrow.Author.Rules.{rules}
use lib.ListN.{length}
use lib.IntN.{ℤ}
use mir.Facts.{to_z-of_z}
use Rattle.laws.specs.Z.{back, back_within}
use Rattle.meaning.specs.Problem.{version1}
use Rattle.meaning.specs.Diagram.{relaxed}
use Rattle.meaning.specs.Filter.{relaxed_arcs}
use Rattle.meaning.specs.Buffers.{arcs_need, cells_need, number_cells}
use Rattle.problem.specs.Held.{campaign_of}
use Rattle.problem.proofs.Faultless.{right}
use Rattle.lent.specs.Wide.{laid}
use Rattle.diagram.proofs.Refused.{arcs_need_lem, cells_need_lem}
use Rattle.diagram.proofs.Rounds.{relaxed_shaped}
use Rattle.diagram.proofs.Served.{front_long, bytes_front, bytes_done, part_long, cells_front, half_room, whole_room, cells_need_long, cells_done, bound_asks, bound_done}
use Rattle.diagram.proofs.relax.Goals as goal
use Rattle.diagram.proofs.relax.Goals.{After-cells_need-numbers}

pub arcs_need-bytes-requires : goal.arcs_need-bytes-requires
arcs_need-bytes-requires c =
    let o = c.requires.open in
    ((right version1 c.args.p.now o.ready.right).head.most, o.ready.few)

pub cells_need-numbers-requires : goal.cells_need-numbers-requires
cells_need-numbers-requires c =
    let o = c.requires.open in
    let head = (right version1 c.args.p.now o.ready.right).head in
    (head.most, head.rules, o.ready.few)

-- the needs are the campaign's
bytes_need : (c : After-cells_need-numbers) → c.arcs_need-bytes.result ≡ arcs_need (campaign_of c.args.p.now) c.args.w
bytes_need c = let o = c.requires.open in c.arcs_need-bytes.ensures ∙ arcs_need_lem c.args.p.now o.ready.right o.long c.args.w

numbers_need : (c : After-cells_need-numbers) → c.cells_need-numbers.result ≡ cells_need (campaign_of c.args.p.now) c.args.w
numbers_need c = let o = c.requires.open in c.cells_need-numbers.ensures ∙ cells_need_lem c.args.p.now o.ready.right o.long c.args.w

-- the cells have room for them
numbers_room : (c : After-cells_need-numbers) → c.cells_need-numbers.result ≤ length c.args.cells.now
numbers_room c = omega (arith, numbers_need c, c.requires.open.room)

pub slice_bounds-build-end : goal.slice_bounds-build-end
slice_bounds-build-end c = numbers_room (goal.at.slice_bounds-build-end c).After-cells_need-numbers

pub slice_bounds-build-end-2 : goal.slice_bounds-build-end-2
slice_bounds-build-end-2 c = let e = (goal.at.slice_bounds-build-end-2 c).After-cells_need-numbers in sym (part_long c.requires.open (numbers_need e))

pub build-exact-requires : goal.build-exact-requires
build-exact-requires c =
    let e = (goal.at.build-exact-requires c).After-cells_need-numbers in
    let o = c.requires.open in
    (o.ready.right, o.ready.some, o.ready.few, o.bytes, part_long o (numbers_need e) ∙ numbers_need e, c.requires.tables)

pub offset_bounds-cells-numbers : goal.offset_bounds-cells-numbers
offset_bounds-cells-numbers c = let e = (goal.at.offset_bounds-cells-numbers c).After-cells_need-numbers in let room = numbers_room e in search rules

pub slice_bounds-zero_cells-count : goal.slice_bounds-zero_cells-count
slice_bounds-zero_cells-count c = let e = (goal.at.slice_bounds-zero_cells-count c).After-cells_need-numbers in let b = c.build-exact in half_room c.requires.open (numbers_need e) b.new.cells b.auto.cells

pub slice_bounds-zero_cells-start : goal.slice_bounds-zero_cells-start
slice_bounds-zero_cells-start c = let e = (goal.at.slice_bounds-zero_cells-start c).After-cells_need-numbers in let b = c.build-exact in half_room c.requires.open (numbers_need e) b.new.cells b.auto.cells

pub slice_bounds-filter-end-3 : goal.slice_bounds-filter-end-3
slice_bounds-filter-end-3 c = let e = (goal.at.slice_bounds-filter-end-3 c).After-cells_need-numbers in let b = c.build-exact in whole_room c.requires.open (numbers_need e) b.new.cells b.auto.cells _

pub slice_bounds-filter-end-2 : goal.slice_bounds-filter-end-2
slice_bounds-filter-end-2 c = let e = (goal.at.slice_bounds-filter-end-2 c).After-cells_need-numbers in front_long c.requires.open (bytes_need e) relaxed _ c.build-exact.ensures.arcs

pub slice_bounds-filter-end-4 : goal.slice_bounds-filter-end-4
slice_bounds-filter-end-4 c = let e = (goal.at.slice_bounds-filter-end-4 c).After-cells_need-numbers in let b = c.build-exact in cells_need_long c.requires.open (numbers_need e) b.new.cells b.auto.cells _

pub filter-requires : goal.filter-requires
filter-requires c =
    let e = (goal.at.filter-requires c).After-cells_need-numbers in
    let o = c.requires.open in
    let b = c.build-exact in (
      o.ready,
      back_within c.requires.small tt,
      bytes_front o (bytes_need e) relaxed _ b.ensures.arcs,
      cells_front o (numbers_need e) b.new.cells b.auto.cells _ ∙ b.ensures.cells,
      c.requires.tables,
    )

pub bound_of-requires : goal.bound_of-requires
bound_of-requires c =
    let e = (goal.at.bound_of-requires c).After-cells_need-numbers in
    let a = c.args in
    let o = c.requires.open in
    let b = c.build-exact in
    let shaped = relaxed_shaped (back a.ceiling) (campaign_of a.p.now) a.w o.ready.some a.rounds in
    bound_asks o _ shaped _ (cells_done o (numbers_need e) b.new.cells b.auto.cells _ shaped _ _ c.zero_cells.ensures c.filter.ensures.cells)

pub returns : goal.returns
returns c =
    let e = (goal.at.returns c).After-cells_need-numbers in
    let a = c.args in
    let o = c.requires.open in
    let q = campaign_of a.p.now in
    let w = a.w in
    let told = to_z-of_z c.ranges.ceiling in
    let f = c.filter in
    let b = c.build-exact in
    let shaped = relaxed_shaped a.ceiling q w o.ready.some a.rounds in
    let x = cells_done o (numbers_need e) b.new.cells b.auto.cells _ shaped _ _ c.zero_cells.ensures (f.ensures.cells ∙ ap (λ (z : ℤ). number_cells q w (cells_need q w) (relaxed_arcs q w a.rounds z)) told) in
    let y = bytes_done o (bytes_need e) relaxed _ b.ensures.arcs _ shaped _ (f.ensures.arcs ∙ ap (λ (z : ℤ). laid 8 w (relaxed_arcs q w a.rounds z)) told) in
    record { value = c.bound_of.ensures ∙ bound_done o _ shaped _ x b.ensures.exact; arcs = y; cells = x }
