use Rattle.std.proofs.Common.{◌≡◌, get_or, cond, refl}
use Rattle.rows.proofs.Up.{tested_none, tested_arc}
use Rattle.rows.proofs.raise_node.Goals as goal
use Rattle.rows.proofs.raise_node.Goals.{else-b-ne0, then-b-ne0, then-stays, else-stays}

pub loop-v-preserved : goal.loop-v-preserved
loop-v-preserved c =
    let l = c.loop-v in
    let eight = c.requires.2 in
    elim c.if-b-ne0.branch [
      | then-b-ne0 w ↦
          let arc = w.raise_arc-stays in
          let byte : w.if-stays.arcs ≡ cond arc.result.1 (get_or l.arcs l.v 0) 0 = elim w.if-stays.branch [ then-stays y ↦ rw (y.arcs-is, y.if-stays.true) refl | else-stays y ↦ rw (y.arcs-is, y.if-stays.false) refl ] in
          rw (w.arcs-is, w.up-is, w.fell-is, byte) (tested_arc l.invariant eight arc.result.1 c.loop-v-test.true w.if-b-ne0.true arc.ensures.stays arc.ensures.up refl)
      | else-b-ne0 w ↦ rw (w.arcs-is, w.up-is, w.fell-is) (tested_none l.invariant eight c.loop-v-test.true w.if-b-ne0.false)
    ]
