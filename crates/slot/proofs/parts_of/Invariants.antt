-- Rule by rule a coefficient and a set of values. The first r rules have their parts.
use mathlib.Core.Path.{◌≡◌}
use Rattle.slot.specs.Rows.{coef_parts, value_parts}
use Rattle.slot.proofs.parts_of.Given as goal

abbrev pub invariant-loop-r : goal.invariant-loop-r
invariant-loop-r l = record { coefs : l.parts.coefs ≡ coef_parts l.r l.i l.problem.terms; values : l.parts.values ≡ value_parts l.r l.i l.problem.terms }
