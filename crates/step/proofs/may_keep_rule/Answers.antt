-- `may_keep_rule` meets its contract: no sum leaves its type.
use Rattle.std.proofs.Common.{◌≡◌, true, ◌+ℤ◌, refl}
use Rattle.std.proofs.Math.Facts.{to_z-of_z}
use Rattle.std.specs.Int.Signed.{le_z}
use Rattle.laws.specs.Z.{sum_within}
use Rattle.step.proofs.Steps.{both_is}
use Rattle.step.proofs.may_keep_rule.Goals as goal

pub returns-then-total-low : goal.returns-then-total-low
returns-then-total-low c =
    let a = c.args in
    let h = c.requires in
    let low : le_z (a.total +ℤ a.low) a.most ≡ true = rw (both_is ◌+ℤ◌ h.0 h.1 (sum_within h.0 h.1) tt tt tt, to_z-of_z c.ranges.most) at c.if-total-low.true in
    rw (low, to_z-of_z c.ranges.least, both_is ◌+ℤ◌ h.0 h.2 (sum_within h.0 h.2) tt tt tt) refl
