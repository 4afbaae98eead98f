use mathlib.Core.Path.{refl}
use native.Mathlib.Omega.{arith}
use Rattle.rows.proofs.Cells.{turn_fits}
use Rattle.numbers.proofs.Limit.{least_within}
use Rattle.building.proofs.Bounds.{bounded_more, bounded_end}
use Rattle.building.proofs.bounds_of.Goals as goal

pub loop-r-init : goal.loop-r-init
loop-r-init c = record { is = refl }

pub overflow_sub-at : goal.overflow_sub-at
overflow_sub-at c = turn_fits (least_within _ c.requires.0 c.loop-r-test.true) tt

pub loop-r-preserved : goal.loop-r-preserved
loop-r-preserved c = bounded_more _ _ c.requires.0 c.loop-r.invariant _ c.loop-r-test.true refl

pub returns : goal.returns
returns c = bounded_end _ _ c.requires.0 c.loop-r.invariant (omega arith)
