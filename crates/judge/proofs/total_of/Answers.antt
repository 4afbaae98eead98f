use Rattle.std.proofs.Common.{length}
use Rattle.judge.proofs.Sums.{sums_more}
use Rattle.judge.proofs.total_of.Goals as goal

pub loop-i-preserved : goal.loop-i-preserved
loop-i-preserved c =
    sums_more c.loop-i.invariant c.share-total.ensures.within c.loop-i-test.true c.requires.steps.count tt
    (rw c.from.ensures at (c.share-total.ensures.is (length c.args.plan.now) c.loop-i-test.true))
