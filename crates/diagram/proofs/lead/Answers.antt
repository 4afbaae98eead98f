use mathlib.Core.Path.{◌≡◌, refl, sym, ap, ◌∙◌}
use mathlib.Core.List.{List}
use Prim.Native.Nat.{ℕ, ◌+◌, ◌*◌, ◌<◌}
use native.Mathlib.Omega.{arith}
use lib.ListN.{length, get_or, length-set}
use lib.IntN.{ℤ, pos}
use Rattle.laws.specs.Z.{back, told}
use Rattle.meaning.specs.Problem.{version1}
use Rattle.meaning.specs.Filter.{restricted_arcs}
use Rattle.problem.specs.Held.{campaign_of}
use Rattle.problem.proofs.Faultless.{right}
use Rattle.slot.proofs.Laid.{part_at}
use Rattle.diagram.proofs.Along.{Turn}
use Rattle.diagram.proofs.Leading.{Room, room, way_start, asks, taken, way_next, way_end}
use Rattle.diagram.proofs.lead.Goals as goal
use Rattle.diagram.proofs.lead.Goals.{After-first_step-v, In-loop-i, Start}

-- the weight that stands in the table
weighed : (s : Start) (i : ℕ) → i < s.args.p.slots → get_or s.args.coefs.now (192 + i) (pos 0) ≡ get_or s.args.p.weights i (pos 0)
weighed s i h =
    sym (part_at 24 192 s.args.coefs.now (pos 0) i (omega (arith, (right version1 s.args.p s.requires.0.ready.right).head.most))) ∙ ap (λ (l : List ℤ). get_or l i (pos 0)) s.requires.1

-- where the turn's bytes and cells are
places : (c : In-loop-i) → Room c.args.p.rules c.args.w c.loop-i.i c.loop-i.j (length c.args.arcs.now) (length c.args.cells.now)
places c = room c.requires.0 c.loop-i.invariant.0 c.loop-i-test.true

-- what the search found
found : (c : After-first_step-v)
    → (let l = c.loop-i in
    Turn (campaign_of c.args.p) c.args.w (restricted_arcs (campaign_of c.args.p) c.args.w) c.args.arcs.now l.i ((l.i * c.args.w + l.j) * 8) c.first_step-v.result)
found c =
    let s = (goal.at.After-first_step-v c).Start in
    let l = c.loop-i in
    let i = c.loop-i-test.true in
    taken c.requires.0 l.invariant.0 i (back (get_or c.args.coefs.now (192 + l.i) (pos 0))) (told _ c.weight-1.given ∙ weighed s l.i i)
    (back (get_or c.args.cells.now ((l.i * c.args.w + l.j) * (4 * c.args.p.rules + 3) + 4 * c.args.p.rules + 2) (pos 0))) (told _ c.cost-1.given) c.first_step-v.result c.first_step-v.ensures.0

pub loop-i-init : goal.loop-i-init
loop-i-init c = (way_start c.requires.0 c.args.plan.now, refl)

pub overflow_add-cost-in-loop-i-2 : goal.overflow_add-cost-in-loop-i-2
overflow_add-cost-in-loop-i-2 c = omega (arith, places c)

pub overflow_add-cost-in-loop-i-3 : goal.overflow_add-cost-in-loop-i-3
overflow_add-cost-in-loop-i-3 c = omega (arith, places c)

pub offset_bounds-cells-i : goal.offset_bounds-cells-i
offset_bounds-cells-i c = omega (arith, places c)

pub bounds-cells-i : goal.bounds-cells-i
bounds-cells-i c = omega (arith, places c)

pub slice_bounds-first_step-end : goal.slice_bounds-first_step-end
slice_bounds-first_step-end c = omega (arith, places (goal.at.slice_bounds-first_step-end c).In-loop-i)

pub overflow_mul-i : goal.overflow_mul-i
overflow_mul-i c = omega (arith, places (goal.at.overflow_mul-i c).In-loop-i)

pub overflow_mul-i-in-loop-i : goal.overflow_mul-i-in-loop-i
overflow_mul-i-in-loop-i c = omega (arith, places (goal.at.overflow_mul-i-in-loop-i c).In-loop-i)

pub overflow_add-i-in-loop-i-2 : goal.overflow_add-i-in-loop-i-2
overflow_add-i-in-loop-i-2 c = omega (arith, places (goal.at.overflow_add-i-in-loop-i-2 c).In-loop-i)

pub offset_bounds-cells-i-in-loop-i : goal.offset_bounds-cells-i-in-loop-i
offset_bounds-cells-i-in-loop-i c = omega (arith, places (goal.at.offset_bounds-cells-i-in-loop-i c).In-loop-i)

pub slice_bounds-first_step-end-in-loop-i : goal.slice_bounds-first_step-end-in-loop-i
slice_bounds-first_step-end-in-loop-i c = omega (arith, places (goal.at.slice_bounds-first_step-end-in-loop-i c).In-loop-i)

pub bounds-arcs-at : goal.bounds-arcs-at
bounds-arcs-at c = omega (arith, places (goal.at.bounds-arcs-at c).In-loop-i, (found (goal.at.bounds-arcs-at c).After-first_step-v).small)

pub overflow_sub-j : goal.overflow_sub-j
overflow_sub-j c = omega (arith, (found (goal.at.overflow_sub-j c).After-first_step-v).byte)

pub first_step-v-requires : goal.first_step-v-requires
first_step-v-requires c =
    let s = (goal.at.first_step-v-requires c).Start in
    let l = c.loop-i in
    let i = c.loop-i-test.true in
    asks c.requires.0 l.invariant.0 i (back (get_or c.args.coefs.now (192 + l.i) (pos 0))) (told _ c.weight-1.given ∙ weighed s l.i i)

pub bounds-plan-i : goal.bounds-plan-i
bounds-plan-i c =
    omega (arith, c.requires.3, c.loop-i.invariant.1, c.loop-i-test.true)

pub overflow_cast-j : goal.overflow_cast-j
overflow_cast-j c =
    let l = c.loop-i in
    record { fits = omega (arith, c.shared_slice_known-in-loop-i-1.given ((l.i * c.args.w + l.j) * 8 + c.first_step-v.result)) }

pub loop-i-preserved : goal.loop-i-preserved
loop-i-preserved c =
    let s = (goal.at.loop-i-preserved c).Start in
    let l = c.loop-i in
    let i = c.loop-i-test.true in
    let f = c.first_step-v in (
      way_next c.requires.0 l.invariant.0 i (back (get_or c.args.coefs.now (192 + l.i) (pos 0))) (told _ c.weight-1.given ∙ weighed s l.i i)
          (back (get_or c.args.cells.now ((l.i * c.args.w + l.j) * (4 * c.args.p.rules + 3) + 4 * c.args.p.rules + 2) (pos 0))) (told _ c.cost-1.given) f.result f.ensures.0 c.requires.3,
      length-set l.plan l.i f.result ∙ l.invariant.1,
    )

pub shape_of-plan : goal.shape_of-plan
shape_of-plan c = c.loop-i.invariant.1

pub returns : goal.returns
returns c = way_end c.requires.0 c.loop-i.invariant.0 c.loop-i-test.false
