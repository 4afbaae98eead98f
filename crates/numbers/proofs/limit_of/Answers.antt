use native.Mathlib.Omega.{arith}
use mir.Facts.{to_z-of_z}
use Rattle.rows.proofs.Cells.{turn_fits}
use Rattle.numbers.proofs.Limit.{least_within, limit_more, bounds_end}
use Rattle.numbers.proofs.limit_of.Goals as goal

pub overflow_sub-limit : goal.overflow_sub-limit
overflow_sub-limit c = turn_fits (least_within _ c.requires.0 c.loop-r-test.true) tt

pub loop-r-preserved : goal.loop-r-preserved
loop-r-preserved c = limit_more _ c.requires.0 c.loop-r-test.true c.loop-r.invariant

pub returns : goal.returns
returns c = bounds_end _ _ _ c.loop-r.invariant (omega arith) (to_z-of_z c.ranges.ceiling)
