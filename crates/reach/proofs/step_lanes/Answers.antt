use mir.Facts.{to_z-of_z}
use Rattle.std.proofs.Common.{rules}
use Rattle.problem.proofs.Arrays.{long}
use Rattle.reach.proofs.Steps.{stepped_none, stepped_more, stepped_all}
use Rattle.reach.proofs.step_lanes.Goals as goal

pub loop-r-init : goal.loop-r-init
loop-r-init c = stepped_none _ _ _ (search long) (search long)

pub loop-r-preserved : goal.loop-r-preserved
loop-r-preserved c = stepped_more _ _ _ (search long) (search long) c.loop-r.invariant c.loop-r-test.true (search (rules, to_z-of_z)) c.lane-share.ensures

pub returns : goal.returns
returns c = stepped_all _ _ _ (search long) (search long) c.loop-r.invariant c.loop-r-test.false
