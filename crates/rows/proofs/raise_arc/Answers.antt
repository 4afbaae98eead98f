-- `raise_arc` meets its contract: the child has no numbers, or the arc is tested.
use Rattle.std.proofs.Common.{ap, ◌∙◌, ◌-◌, ◌*◌, cond}
use Rattle.lent.specs.Lanes.{arc_at, sums}
use Rattle.rows.proofs.Lanes.{wide, each_lanes, far_at_yes, far_at_no}
use Rattle.rows.proofs.Up.{arc_lone, arc_near}
use Rattle.rows.proofs.raise_arc.Goals as goal

pub along-z-requires : goal.along-z-requires
along-z-requires c =
    let a = c.args in
    let p = c.requires in
    (rw c.lanes_at.ensures (wide _ (each_lanes a.next.now ((a.b - 1) * 17) p.1.inside)), p.0.long, wide a.row.now p.0.inside, p.2)

pub returns-then-next-to-eq-FAR : goal.returns-then-next-to-eq-FAR
returns-then-next-to-eq-FAR c =
    let a = c.args in
    let lone = arc_lone a.row.now a.next.now a.room a.up a.v a.b c.requires.3 (far_at_yes a.next.now ((a.b - 1) * 17) c.requires.1.inside c.if-next-to-eq-FAR.true) in
    record { up = lone.0; stays = lone.1 }

pub returns : goal.returns
returns c =
    let a = c.args in
    let near = arc_near a.row.now a.next.now a.room a.up a.v a.b c.requires.3 (far_at_no a.next.now ((a.b - 1) * 17) c.if-next-to-eq-FAR.false) (c.along-z.ensures ∙ ap (λ x. sums x (arc_at a.row.now a.v)) c.lanes_at.ensures) in
    record { up = c.least_of.ensures ∙ near.0; stays = ap (λ t. cond t a.b 0) c.at_most.ensures ∙ near.1 }
