use mathlib.Core.Path.{◌≡◌}
use lib.ListN.{length}
use Rattle.state.proofs.Sizes.{mapped, dif_fits}
use Rattle.state.proofs.Turns.{inside_at, less_more}
use Rattle.state.proofs.less.Goals as goal

pub overflow_sub-t : goal.overflow_sub-t
overflow_sub-t c = dif_fits (inside_at 10000000 c.args.s.at c.loop-k.k c.requires.0).0 (inside_at 10000000 c.args.u.at c.loop-k.k c.requires.1).0

pub overflow_sub-t-in-loop-k : goal.overflow_sub-t-in-loop-k
overflow_sub-t-in-loop-k c = dif_fits (inside_at 10000000 c.args.s.at c.loop-k.k c.requires.0).1 (inside_at 10000000 c.args.u.at c.loop-k.k c.requires.1).1

pub loop-k-preserved : goal.loop-k-preserved
loop-k-preserved c =
    let a = c.args in
    let m : length a.s.at ≡ 8 = search mapped in
    let n : length a.u.at ≡ 8 = search mapped in
    less_more a.s.at a.u.at c.loop-k.t.at c.loop-k.k m n c.loop-k-test.true c.requires.0 c.requires.1 c.loop-k.invariant
