use mathlib.Core.Path.{◌≡◌, refl, sym, ap, ◌∙◌}
use mathlib.Core.Bool.{◌&&◌, ◌||◌, cond}
use Prim.Native.Nat.{min, ◌+◌, ◌*◌}
use native.Mathlib.Omega.{arith}
use Rattle.std.proofs.Common.{rules}
use borrow.Author.Tests.{eq-eqb, ne_eqb}
use lib.Dec.{eqb, leb}
use Rattle.meaning.specs.Diagram.{relaxed}
use Rattle.numbers.specs.Whole.{Ready}
use Rattle.numbers.proofs.Passes.{sets_long, few_size, spare_start}
use Rattle.state.specs.Pairs.{pairs, pairs_at, lessened}
use Rattle.numbers.proofs.Limit.{bounding}
use Rattle.layer.specs.Places.{builder_of}
use Rattle.building.proofs.Problems.{sizes, place_at, going_start, going_downs, going_slot_row, going_limit, going_room, going_layer, places_in, going_downs_last, going_long, going_next, going_more, going_end}
use Rattle.building.proofs.build.Goals as goal
use Rattle.building.proofs.build.Goals.{Start, Joined-last, Joined-last-2, After-build_layer-count, then-last, else-last, then-last-2, else-last-2, then-exact+then-last-3, then-exact+else-last-3, else-exact}

-- the problem has no fault, and the width is in range
ready : (s : Start) → Ready s.args.p s.args.w
ready s = record { right = s.requires.0; some = s.requires.1; few = s.requires.2 }

-- whether states past the last place share it, and how many places there are
shared : (c : Joined-last) → builder_of c.if-last.build_layer ≡ cond (eqb (c.loop-i.i + 1) c.args.p.slots) relaxed (builder_of c.args.builder)
shared c = elim c.if-last.branch [
  | then-last t ↦ ap builder_of t.build_layer-is ∙ (λ d. cond (sym (eq-eqb (c.loop-i.i + 1) c.args.p.slots t.if-last.true) d) relaxed (builder_of c.args.builder))
  | else-last t ↦ ap builder_of t.build_layer-is ∙ (λ d. cond (sym (ne_eqb (c.loop-i.i + 1) c.args.p.slots t.if-last.false) d) relaxed (builder_of c.args.builder))
]

places : (c : Joined-last-2) → c.if-last-2.build_layer ≡ cond (eqb (c.loop-i.i + 1) c.args.p.slots) 1 c.args.w
places c = elim c.if-last-2.branch [
  | then-last-2 t ↦ t.build_layer-is ∙ (λ d. cond (sym (eq-eqb (c.loop-i.i + 1) c.args.p.slots t.if-last-2.true) d) 1 c.args.w)
  | else-last-2 t ↦ t.build_layer-is ∙ (λ d. cond (sym (ne_eqb (c.loop-i.i + 1) c.args.p.slots t.if-last-2.false) d) 1 c.args.w)
]

-- the limit of the slot
limit : (c : After-build_layer-count) → pairs c.less-limit.result ≡ lessened (pairs c.bounds_of-bounds.result) (pairs_at c.reaches.new.table ((c.loop-i.i + 1) * 17))
limit c = c.less-limit.ensures ∙ ap (lessened (pairs c.bounds_of-bounds.result)) c.taken.ensures

pub overflow_mul-size-2 : goal.overflow_mul-size-2
overflow_mul-size-2 c = omega (arith, few_size (ready (goal.at.overflow_mul-size-2 c).Start))

pub bounds_of-bounds-requires : goal.bounds_of-bounds-requires
bounds_of-bounds-requires c = (bounding c.args.p c.requires.5 c.requires.0, c.requires.5.long)

pub loop-i-init : goal.loop-i-init
loop-i-init c =
    let x = c.requires in
    let r = ready (goal.at.loop-i-init c).Start in
    let s = sizes r (sets_long x.5) x.3 x.4 in
    record { sizes = s; place = place_at s 0 (omega arith); going = going_start r x.5 x.3 c.bounds_of-bounds.ensures c.reaches.ensures (search rules) x.4 c.one_node-here.ensures spare_start refl }

pub put_downs-requires : goal.put_downs-requires
put_downs-requires c = going_downs c.loop-i.invariant.going

pub slot_row-requires : goal.slot_row-requires
slot_row-requires c = going_slot_row c.loop-i.invariant.going c.loop-i-test.true

pub less-limit-requires : goal.less-limit-requires
less-limit-requires c =
    let a = going_limit c.loop-i.invariant.going c.loop-i-test.true in
    (a.0, rw c.taken.ensures a.1)

pub slice_bounds-build_layer-end-in-loop-i-2 : goal.slice_bounds-build_layer-end-in-loop-i-2
slice_bounds-build_layer-end-in-loop-i-2 c = omega (arith, going_room c.loop-i.invariant.going c.loop-i-test.true)

pub build_layer-count-requires : goal.build_layer-count-requires
build_layer-count-requires c =
    let g = c.loop-i.invariant.going in
    let a = going_layer g c.loop-i-test.true c.slot_row.ensures in
    let k = places_in g (eqb (c.loop-i.i + 1) c.args.p.slots) (places (goal.at.build_layer-count-requires c).Joined-last-2) in
    (a.0, a.1, k.0, k.1, a.2)

pub next_down-requires : goal.next_down-requires
next_down-requires c =
    let l = (goal.at.next_down-requires c).After-build_layer-count in
    going_next c.loop-i.invariant.going c.loop-i-test.true c.slot_row.ensures (limit l) (shared (goal.at.next_down-requires c).Joined-last) (places (goal.at.next_down-requires c).Joined-last-2) c.build_layer-count.ensures

pub loop-i-preserved : goal.loop-i-preserved
loop-i-preserved c =
    let a = goal.at.loop-i-preserved c in
    let count = c.build_layer-count.result in
    let last = eqb (c.loop-i.i + 1) c.args.p.slots in
    let least : c.min-nodes.result ≡ min count c.args.w = omega arith in
    let still : c.if-exact.exact ≡ (c.loop-i.exact && (last || leb count c.args.w)) =
    elim c.if-exact.branch [
      | then-exact+then-last-3 t ↦ t.exact-is ∙ eq-eqb (c.loop-i.i + 1) c.args.p.slots t.if-last-3.true ∙ (λ d. sym t.if-exact.true d && (sym (eq-eqb (c.loop-i.i + 1) c.args.p.slots t.if-last-3.true) d || leb count c.args.w))
      | then-exact+else-last-3 t ↦ t.exact-is ∙ (λ d. sym t.if-exact.true d && (sym (ne_eqb (c.loop-i.i + 1) c.args.p.slots t.if-last-3.false) d || leb count c.args.w))
      | else-exact t ↦ t.exact-is ∙ t.if-exact.false ∙ (λ d. sym t.if-exact.false d && (last || leb count c.args.w))
    ] in
    record {
      sizes = c.loop-i.invariant.sizes;
      place = place_at c.loop-i.invariant.sizes (c.loop-i.i + 1) (omega arith);
      going =
          going_more c.loop-i.invariant.going c.loop-i-test.true c.slot_row.ensures (limit a.After-build_layer-count) (shared a.Joined-last) (places a.Joined-last-2) c.build_layer-count.ensures c.min-nodes.result c.if-exact.exact
          c.put_downs.ensures refl c.next_down.ensures.here_after c.next_down.ensures.spare least still;
    }

pub put_downs-requires-2 : goal.put_downs-requires-2
put_downs-requires-2 c = going_downs_last c.loop-i.invariant.going

pub shape_of-arcs : goal.shape_of-arcs
shape_of-arcs c = going_long c.loop-i.invariant.going

pub returns : goal.returns
returns c =
    let e = going_end c.loop-i.invariant.going c.loop-i-test.false c.put_downs-2.ensures in
    record { arcs = e.0; cells = e.1; exact = e.2 }
