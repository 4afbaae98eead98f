use mathlib.Core.Path.{◌≡◌}
use lib.ListN.{length}
use Rattle.state.proofs.Sizes.{mapped, sum_fits, dif_fits}
use Rattle.state.proofs.Turns.{inside_at}
use Rattle.state.proofs.Steps.{share_within, child_more}
use Rattle.state.proofs.child.Goals as goal

pub overflow_add-t : goal.overflow_add-t
overflow_add-t c =
    sum_fits (inside_at 10000000 c.args.s.at c.loop-k.k c.requires.2).0 (share_within c.args.row.now c.args.v c.requires.0 c.requires.1 10000000 c.loop-k.k c.loop-k-test.true c.requires.3)

pub overflow_sub-t : goal.overflow_sub-t
overflow_sub-t c =
    dif_fits (inside_at 10000000 c.args.s.at c.loop-k.k c.requires.2).1 (share_within c.args.row.now c.args.v c.requires.0 c.requires.1 10000000 c.loop-k.k c.loop-k-test.true c.requires.3)

pub loop-k-preserved : goal.loop-k-preserved
loop-k-preserved c =
    let m : length c.args.s.at ≡ 8 = search mapped in
    child_more c.args.row.now c.args.v c.requires.0 c.requires.1 c.loop-k.k c.loop-k-test.true c.requires.3 c.args.s.at c.loop-k.t.at m c.requires.2 c.loop-k.invariant
