use mathlib.Core.Path.{refl}
use lib.ListN.{replicate}
use Rattle.state.proofs.Joined.{no_pair}
use Rattle.state.proofs.Steps.{turned_fits, shares_more}
use Rattle.state.proofs.shares.Goals as goal

pub overflow_sub-s : goal.overflow_sub-s
overflow_sub-s c = turned_fits c.args.row.now c.args.v c.requires.0 c.requires.1 c.loop-k.k c.loop-k-test.true c.requires.2

pub loop-k-preserved : goal.loop-k-preserved
loop-k-preserved c =
    shares_more c.args.row.now c.args.v c.requires.0 c.requires.1 c.loop-k.k c.loop-k-test.true c.requires.2 c.loop-k.s.at (replicate 8 no_pair) refl c.loop-k.invariant
