use Rattle.rows.proofs.UpLayer.{lifted_more}
use borrow.Author.Rules.{rules}
use mathlib.Core.Path.{refl}
use Rattle.rows.proofs.raise.Goals as goal

pub loop-j-preserved : goal.loop-j-preserved
loop-j-preserved c =
    let r = c.raise_node-node_fell in
    lifted_more c.loop-j.invariant c.loop-j-test.true (search rules) c.lanes_at.ensures r.ensures.up r.ensures.arcs r.ensures.fell c.put_lanes.ensures refl
