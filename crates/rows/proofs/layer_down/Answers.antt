use borrow.Author.Rules.{rules}
use Rattle.std.proofs.Common.{refl, sym, ◌∙◌, ◌+◌, ◌-◌, ◌*◌, ◌≤◌, get_or, take, drop, pos, arith}
use Rattle.laws.specs.Z.{told, back_within}
use Rattle.laws.proofs.Each.{each_take, each_drop}
use Rattle.lent.specs.Passes.{bring_node}
use Rattle.state.proofs.Rows.{inside_row}
use Rattle.lanes.proofs.Laws.{lane_within}
use Rattle.rows.proofs.Laid.{part_is, part_long}
use Rattle.rows.proofs.Lanes.{far_at_yes, far_at_no}
use Rattle.rows.proofs.Down.{lanes_of, lanes_split, next_node}
use Rattle.rows.proofs.layer_down.Goals as goal
use Rattle.rows.proofs.layer_down.Goals.{then-cost-ne-FAR, else-cost-ne-FAR}

pub bring_node-requires : goal.bring_node-requires
bring_node-requires c =
    let j = c.loop-j.j in
    let here = c.args.here.now in
    let arcs = c.args.arcs.now in (
      c.requires.1,
      rw c.taken-x.ensures (inside_row 4000000 here (j * 17) c.requires.2.inside),
      back_within (lane_within here (j * 17 + 16) c.requires.2.inside) tt,
      part_long (j * 8) 8 arcs (omega (arith, c.requires.3)),
      each_take (λ b. b ≤ 16) (j * 8 + 8 - j * 8) (drop (j * 8) arcs) (each_drop (λ b. b ≤ 16) (j * 8) arcs c.requires.4),
      search rules,
    )

pub loop-j-preserved : goal.loop-j-preserved
loop-j-preserved c =
    let a = c.args in
    let l = c.loop-j in
    let here = a.here.now in
    let at = l.j * 17 in
    let split = lanes_split here at (omega (arith, c.requires.0, c.requires.2.long, c.loop-j-test.true)) in
    next_node a.w a.row.now here l.next a.arcs.now l.j c.loop-j-test.true l.invariant (elim c.if-cost-ne-FAR.branch [
      | then-cost-ne-FAR w ↦
          w.next-is ∙ w.bring_node.ensures
          ∙ rw (far_at_no here at w.if-cost-ne-FAR.true, part_is (l.j * 8) 8 a.arcs.now)
          (λ i. bring_node a.row.now (((λ k. lanes_of (w.taken-x.ensures k) (told (get_or here (at + 16) (pos 0)) c.cost-1.given k)) ∙ sym split) i) 0 (take 8 (drop (l.j * 8) a.arcs.now)) l.next)
      | else-cost-ne-FAR w ↦ w.next-is ∙ rw (far_at_yes here at c.requires.2.inside w.if-cost-ne-FAR.false) refl
    ])
