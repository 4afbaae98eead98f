-- `page` meets its contract: 8, 10 and 11 are tested, the guard never holds; then the buffers hold the diagram, and the walk along it brings the page.
use mathlib.Core.Path.{◌≡◌, refl, sym, ap, ◌∙◌}
use mathlib.Core.List.{List, []}
use mathlib.Core.Bool.{Bool, false, ◌||◌}
use Prim.Native.Nat.{◌/◌}
use native.Mathlib.Omega.{arith}
use borrow.Author.Rules.{rules}
use lib.ListN.{length, take}
use lib.IntN.{ℤ}
use mir.Facts.{to_z-of_z}
use Rattle.std.specs.Prelude.{Ok, Err}
use Rattle.laws.specs.Z.{back}
use Rattle.laws.proofs.Lists.{or_neither}
use Rattle.meaning.specs.Plan.{Campaign, slots}
use Rattle.meaning.specs.Problem.{version1}
use Rattle.meaning.specs.Buffers.{arcs_need, cells_need, arc_bytes, arcs_in, number_cells}
use Rattle.meaning.specs.Filter.{relaxed_arcs}
use Rattle.meaning.specs.Running.{relaxed_numbers}
use Rattle.meaning.specs.Page.{walked, page_of, page_bytes}
use Rattle.meaning.specs.Calls.{Lent, Done, Bound, Count, wrong_numbers, wrong_start, short_diagram, short_plan, relaxed_done, relaxed_of, no_count, page_done}
use Rattle.problem.specs.declared.Problem.{Problem}
use Rattle.problem.specs.Held.{fault_in, campaign_of}
use Rattle.problem.proofs.Faultless.{right}
use Rattle.diagram.specs.Answers.{lent_of}
use Rattle.diagram.specs.Open.{Open}
use Rattle.diagram.proofs.Refused.{short_either, enough, relaxed_stays, arcs_need_lem, cells_need_lem}
use Rattle.step.specs.Answers.{listed_as}
use Rattle.pages.specs.Answers.{counted_as}
use Rattle.pages.proofs.Refused.{refused_11, served, builder_refuses, done as builder_done}
use Rattle.pages.proofs.Along.{front_long, front_formed, front_page, cells_long, cells_are}
use Rattle.pages.proofs.page.Goals as goal
use Rattle.pages.proofs.page.Goals.{Start, After-relaxed_by, In_ok-relaxed_by, After-cells_need-numbers}

-- what is answered, by the arguments
module _ (s : Start) where
  abbrev p : Problem
  p = s.args.problem.now.problem

  abbrev q : Campaign
  q = campaign_of p

  abbrev lent : Lent
  lent = lent_of s.args.arcs.now s.args.cells.now s.args.page.now

  -- what the builder is lent
  abbrev parts : Lent
  parts = lent_of s.args.arcs.now s.args.cells.now []

  abbrev wrong : Bool
  wrong = wrong_numbers s.args.width s.args.rounds s.args.ceiling

  abbrev late : Bool
  late = wrong_start q s.args.start.now

  abbrev short : Bool
  short = short_diagram q s.args.width lent || short_plan q lent

  abbrev running : List ℤ
  running = relaxed_numbers q s.args.width s.args.rounds s.args.ceiling

  abbrev done : Done Count
  done = page_done q s.args.width s.args.rounds s.args.ceiling s.args.start.now lent

  abbrev built : Done Bound
  built = relaxed_of q s.args.width s.args.rounds s.args.ceiling parts

-- past the tests of the page, and the builder
module _ (c : After-relaxed_by) where
  abbrev s : Start
  s = (goal.at.After-relaxed_by c).Start

  no_fault : fault_in version1 (p s) ≡ 0
  no_fault = search rules

  numbers : wrong s ≡ false
  numbers = ap (λ (z : ℤ). wrong_numbers c.args.width c.args.rounds z) (sym (to_z-of_z c.ranges.ceiling)) ∙ c.in_ok-check_numbers.ensures.ok.0

  -- at the ceiling as it came
  same : relaxed_of (q s) c.args.width c.args.rounds (back c.args.ceiling) (parts s) ≡ built s
  same = ap (λ (z : ℤ). relaxed_of (q s) c.args.width c.args.rounds z (parts s)) (to_z-of_z c.ranges.ceiling)

pub returns-in_err-relaxed_by : goal.returns-in_err-relaxed_by
returns-in_err-relaxed_by c =
    let k = (goal.at.returns-in_err-relaxed_by c).After-relaxed_by in
    let a = c.args in
    let s0 = s k in
    let r = c.in_err-relaxed_by.ensures in
    let no = builder_refuses (p s0) (no_fault k) a.width a.rounds a.ceiling (parts s0) (numbers k) _ (r.answer ∙ ap (λ (d : Done Bound). d.answer) (same k)) in
    let g = refused_11 (wrong s0) (late s0) (short s0) (running s0) (no_count (lent s0)) (done s0) (numbers k) c.in_ok-check_start.ensures.ok.0 (short_either (short_diagram (q s0) a.width (lent s0)) (short_plan (q s0) (lent s0)) no.0) in
    let is : c.from_residual-in_err-relaxed_by.result ≡ Err c.in_err-relaxed_by.field-0.0 = search rules in record {
      answer = ap counted_as is ∙ (λ i. record { number = no.1 i; count = 0; more = false }) ∙ ap (λ (d : Done Count). d.answer) (sym g);
      arcs = r.unchanged.0 ∙ ap (λ (d : Done Count). d.lent.arcs) (sym g);
      cells = r.unchanged.1 ∙ ap (λ (d : Done Count). d.lent.cells) (sym g);
      page = ap (λ (d : Done Count). d.lent.plan) (sym g);
      unchanged = rw is (r.unchanged.0, r.unchanged.1, refl);
    }

-- the builder had room, and the buffers hold the diagram
module _ (c : In_ok-relaxed_by) where
  abbrev k : After-relaxed_by
  k = (goal.at.In_ok-relaxed_by c).After-relaxed_by

  opened : Open (p (s k)) c.args.width c.args.arcs.now c.args.cells.now
  opened = c.in_ok-relaxed_by.ensures.room

  builds : built (s k) ≡ relaxed_done (q (s k)) c.args.width c.args.rounds c.args.ceiling (parts (s k))
  builds = builder_done (p (s k)) (no_fault k) c.args.width c.args.rounds c.args.ceiling (parts (s k)) (numbers k) (enough (q (s k)) c.args.width (parts (s k)) opened.bytes opened.room)

  bytes_are : c.relaxed_by.new.arcs ≡ arc_bytes (q (s k)) c.args.width (length c.args.arcs.now) (relaxed_arcs (q (s k)) c.args.width c.args.rounds c.args.ceiling)
  bytes_are = c.in_ok-relaxed_by.ensures.arcs ∙ ap (λ (d : Done Bound). d.lent.arcs) (same k ∙ builds)

  numbers_are : c.relaxed_by.new.cells ≡ number_cells (q (s k)) c.args.width (length c.args.cells.now) (relaxed_arcs (q (s k)) c.args.width c.args.rounds c.args.ceiling)
  numbers_are = c.in_ok-relaxed_by.ensures.cells ∙ ap (λ (d : Done Bound). d.lent.cells) (same k ∙ builds)

pub arcs_need-bytes-requires : goal.arcs_need-bytes-requires
arcs_need-bytes-requires c =
    let f : fault_in version1 c.args.problem.now.problem ≡ 0 = search rules in
    ((right version1 c.args.problem.now.problem f).head.most, c.in_ok-check_numbers.ensures.ok.2)

pub cells_need-numbers-requires : goal.cells_need-numbers-requires
cells_need-numbers-requires c =
    let f : fault_in version1 c.args.problem.now.problem ≡ 0 = search rules in
    let head = (right version1 c.args.problem.now.problem f).head in
    (head.most, head.rules, c.in_ok-check_numbers.ensures.ok.2)

-- the needs are the campaign's
module _ (c : After-cells_need-numbers) where
  abbrev j : In_ok-relaxed_by
  j = (goal.at.After-cells_need-numbers c).In_ok-relaxed_by

  bytes_need : c.arcs_need-bytes.result ≡ arcs_need (q (s (k j))) c.args.width
  bytes_need = c.arcs_need-bytes.ensures ∙ arcs_need_lem (p (s (k j))) (no_fault (k j)) (opened j).long c.args.width

  numbers_need : c.cells_need-numbers.result ≡ cells_need (q (s (k j))) c.args.width
  numbers_need = c.cells_need-numbers.ensures ∙ cells_need_lem (p (s (k j))) (no_fault (k j)) (opened j).long c.args.width

pub slice_bounds-list-end : goal.slice_bounds-list-end
slice_bounds-list-end c = let e = (goal.at.slice_bounds-list-end c).After-cells_need-numbers in omega (arith, bytes_need e, (opened (j e)).bytes, c.relaxed_by.auto.arcs)

pub slice_bounds-list-end-2 : goal.slice_bounds-list-end-2
slice_bounds-list-end-2 c = let e = (goal.at.slice_bounds-list-end-2 c).After-cells_need-numbers in front_long (opened (j e)) c.args.rounds c.args.ceiling (bytes_need e) _ (bytes_are (j e))

pub slice_bounds-list-end-3 : goal.slice_bounds-list-end-3
slice_bounds-list-end-3 c = let e = (goal.at.slice_bounds-list-end-3 c).After-cells_need-numbers in omega (arith, numbers_need e, (opened (j e)).room, c.relaxed_by.auto.cells)

pub slice_bounds-list-end-4 : goal.slice_bounds-list-end-4
slice_bounds-list-end-4 c = let e = (goal.at.slice_bounds-list-end-4 c).After-cells_need-numbers in cells_long (opened (j e)) c.args.rounds c.args.ceiling (bytes_need e) _ (bytes_are (j e)) (numbers_need e) _ (numbers_are (j e))

pub list-listed-requires : goal.list-listed-requires
list-listed-requires c =
    let a = c.args in
    let e = (goal.at.list-listed-requires c).After-cells_need-numbers in
    let o = opened (j e) in (
      o.ready,
      c.put_parts.ensures,
      c.in_ok-check_numbers.ensures.ok.3,
      c.in_ok-check_start.ensures.ok.1,
      front_formed o a.rounds a.ceiling (bytes_need e) _ (bytes_are (j e)),
      cells_are o a.rounds a.ceiling (bytes_need e) _ (bytes_are (j e)) (numbers_need e) _ (numbers_are (j e)),
      c.in_ok-check_plan.ensures.ok.1,
    )

pub returns : goal.returns
returns c =
    let a = c.args in
    let e = (goal.at.returns c).After-cells_need-numbers in
    let i = j e in
    let o = opened i in
    let s0 = s (k i) in
    let q0 = q s0 in
    let room = length a.page.now in
    let l = c.list-listed.ensures in
    let short0 = or_neither (short_diagram q0 a.width (lent s0)) (short_plan q0 (lent s0)) (enough q0 a.width (lent s0) o.bytes o.room) c.in_ok-check_plan.ensures.ok.0 in
    let g = sym (served (wrong s0) (late s0) (short s0) (running s0) (no_count (lent s0)) (done s0) (numbers (k i)) c.in_ok-check_start.ensures.ok.0 short0 (relaxed_stays (p s0) (no_fault (k i)) a.width a.rounds a.ceiling)) in
    let along = front_page o a.rounds a.ceiling (bytes_need e) _ (bytes_are i) (room / slots q0) a.start.now in
    let found = ap (λ (z : ℤ). page_of (room / slots q0) (walked (arcs_in q0 a.width (take c.arcs_need-bytes.result c.relaxed_by.new.arcs)) q0 z a.start.now)) (to_z-of_z c.ranges.ceiling) ∙ along in record {
      answer = ap (λ x. counted_as (Ok x)) (l.value ∙ ap listed_as found) ∙ ap (λ (d : Done Count). d.answer) g;
      arcs = bytes_are i ∙ ap (λ (d : Done Count). d.lent.arcs) g;
      cells = numbers_are i ∙ ap (λ (d : Done Count). d.lent.cells) g;
      page = l.page ∙ ap (page_bytes room) found ∙ ap (λ (d : Done Count). d.lent.plan) g;
      unchanged = tt;
    }
