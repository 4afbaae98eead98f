use mathlib.Core.Path.{ap, ◌∙◌}
use Prim.Native.Nat.{◌*◌}
use lib.ListN.{replicate}
use lib.IntN.{pos}
use Rattle.lent.specs.Lanes.{lanes_at}
use Rattle.lent.specs.Passes.{node_lanes, down_cells}
use Rattle.lent.proofs.Whole.{node_long}
use Rattle.rows.proofs.Laid.{part_is, laying_more}
use Rattle.rows.proofs.Layers.{downs_next}
use Rattle.rows.proofs.put_downs.Goals as goal

pub loop-j-preserved : goal.loop-j-preserved
loop-j-preserved c =
    let a = c.args in
    let j = c.loop-j.j in
    let here = a.here.now in
    let zeros = replicate 17 (pos 0) in
    let t = c.loop-j-test.true in
    laying_more c.loop-j.invariant (down_cells a.m here j) t (c.put_down.ensures ∙ ap (λ l. node_lanes a.m l zeros) (part_is (j * 17) 17 here)) (node_long a.m (lanes_at here (j * 17)) zeros) (downs_next a.m a.w here j t)
