use mathlib.Core.Path.{◌≡◌}
use lib.ListN.{length}
use Rattle.meaning.specs.Diagram.{merged}
use Rattle.state.proofs.Sizes.{mapped}
use Rattle.state.proofs.Turns.{pair_more}
use Rattle.state.proofs.merged.Goals as goal

pub loop-k-preserved : goal.loop-k-preserved
loop-k-preserved c =
    let a = c.args in
    let m : length a.s.at ≡ 8 = search mapped in
    let n : length a.u.at ≡ 8 = search mapped in
    pair_more merged a.s.at a.u.at m n c.loop-k.t.at c.loop-k.k c.merged_pair.result c.loop-k-test.true c.loop-k.invariant c.merged_pair.ensures
