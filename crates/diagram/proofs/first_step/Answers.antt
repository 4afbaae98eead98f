use mathlib.Core.Path.{◌≡◌, refl, sym, ap, ◌∙◌}
use mathlib.Core.Logic.{⊎_elim}
use Prim.Native.Nat.{ℕ, ◌+◌, ◌<◌}
use native.Mathlib.Omega.{arith}
use lib.ListN.{drop}
use lib.IntN.{ℤ, pos, ◌*ℤ◌}
use mir.Facts.{to_z-of_z}
use Rattle.laws.specs.Z.{back, back_within}
use Rattle.diagram.specs.Leading.{first_cell}
use Rattle.diagram.proofs.Steps.{step_stops, step_goes, step_skips, steps_end}
use Rattle.diagram.proofs.first_step.Goals as goal
use Rattle.diagram.proofs.first_step.Goals.{Start}

-- the weight and the cost are read back from their bits
told : (s : Start) (v : ℕ)
    → first_cell s.args.m (back s.args.weight) s.args.cells.now (back s.args.cost) v (drop v s.args.arcs.now)
    ≡ first_cell s.args.m s.args.weight s.args.cells.now s.args.cost v (drop v s.args.arcs.now)
told s v = λ i. first_cell s.args.m (to_z-of_z s.ranges.weight i) s.args.cells.now (to_z-of_z s.ranges.cost i) v (drop v s.args.arcs.now)

pub loop-v-init : goal.loop-v-init
loop-v-init c = refl

pub price-requires : goal.price-requires
price-requires c = (omega arith, back_within c.requires.small tt)

pub returns-then-c-price : goal.returns-then-c-price
returns-then-c-price c =
    let s = (goal.at.returns-then-c-price c).Start in
    let v = c.loop-v.v in
    let p = c.price in
    let is : p.result ≡ c.args.weight *ℤ pos v = p.ensures.0 ∙ ap (λ (t : ℤ). t *ℤ pos v) (to_z-of_z c.ranges.weight) in
    let stops = step_stops c.requires v (omega arith) p.ensures.1 is c.ranges.cost (omega arith) c.if-c-price.true in
    (sym (sym (told s 0) ∙ c.loop-v.invariant ∙ told s v ∙ stops), omega arith)

pub loop-v-preserved : goal.loop-v-preserved
loop-v-preserved c =
    let s = (goal.at.loop-v-preserved c).Start in
    let l = c.loop-v in
    let v = l.v in
    let few : v < 8 = omega arith in
    let goes = ⊎_elim (λ x. step_goes c.requires v few x.price.ensures.1 (x.price.ensures.0 ∙ ap (λ (t : ℤ). t *ℤ pos v) (to_z-of_z c.ranges.weight)) c.ranges.cost (omega (arith, x.if-b-ne0.true)) x.if-c-price.false) (λ x. step_skips c.requires v few x.if-b-ne0.false c.args.cost) c.if-b-ne0.branch-raw in
    l.invariant ∙ told s v ∙ goes ∙ sym (told s (v + 1))

pub returns : goal.returns
returns c =
    let s = (goal.at.returns c).Start in
    let l = c.loop-v in
    let end : l.v ≡ 8 = omega arith in
    (sym (sym (told s 0) ∙ l.invariant ∙ told s l.v ∙ rw end (steps_end c.requires c.args.cost)), omega arith)
