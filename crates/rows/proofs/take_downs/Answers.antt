use mathlib.Core.Path.{ap, ◌∙◌}
use Prim.Native.Nat.{◌+◌, ◌*◌}
use lib.ListN.{take, drop}
use Rattle.lent.specs.Passes.{down_lanes}
use Rattle.rows.proofs.Laid.{part_is, laying_paste}
use Rattle.rows.proofs.Cells.{down_long}
use Rattle.rows.proofs.Layers.{made_next}
use Rattle.rows.proofs.take_downs.Goals as goal

pub loop-j-preserved : goal.loop-j-preserved
loop-j-preserved c =
    let a = c.args in
    let l = c.loop-j in
    let t = c.loop-j-test.true in
    let k = 4 * a.m + 3 in
    let f = down_lanes a.m in
    let cells = a.cells.now in
    let part = take k (drop (l.j * k) cells) in
    rw c.put_lanes.ensures (laying_paste l.invariant (f part) t (c.lanes_down.ensures ∙ ap f (part_is (l.j * k) k cells)) (down_long a.m part) (made_next f a.w k cells l.j t))
