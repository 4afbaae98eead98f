use borrow.Author.Rules.{rules}
use lib.IntN.{◌+ℤ◌}
use Rattle.laws.specs.Z.{back_is, sum_within}
use Rattle.lanes.proofs.Laws.{lane_within, zipped_more, zipped_all}
use Rattle.lanes.proofs.sum_of.Goals as goal

pub loop-k-preserved : goal.loop-k-preserved
loop-k-preserved c =
    let l = c.loop-k in
    let a = lane_within c.args.x l.k c.requires.0 in
    let b = lane_within c.args.y l.k c.requires.1 in
    zipped_more ◌+ℤ◌ c.args.x c.args.y (search rules) (search rules) _ l.invariant c.loop-k-test.true (rw (back_is a tt, back_is b tt) (back_is (sum_within a b) tt))

pub returns : goal.returns
returns c = zipped_all ◌+ℤ◌ c.args.x c.args.y (search rules) (search rules) c.loop-k.invariant c.loop-k-test.false
