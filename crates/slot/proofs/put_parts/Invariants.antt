-- A turn lays a slot's row in each table; then a turn lays the two bounds of a rule.
use mathlib.Core.Path.{◌≡◌}
use mathlib.Core.List.{map}
use lib.Seq.{paste}
use lib.IntN.{pos}
use Rattle.laws.specs.Lists.{gather, from, padded}
use Rattle.slot.specs.Rows.{coef_parts, value_parts}
use Rattle.slot.proofs.Laid.{Copied}
use Rattle.slot.proofs.put_parts.Given as goal

abbrev pub invariant-loop-i : goal.invariant-loop-i
invariant-loop-i l = record {
  coefs : l.coefs ≡ padded 232 (pos 0) (gather (λ k. coef_parts l.p.rules k l.p.terms) (from 0 l.i));
  values : l.values ≡ padded 216 0 (gather (λ k. value_parts l.p.rules k l.p.terms) (from 0 l.i));
}

abbrev pub invariant-loop-r : goal.invariant-loop-r
invariant-loop-r l = Copied (paste l.initial.coefs 216 (map (λ b. b.lb) l.p.bounds) l.r) 224 (map (λ b. b.ub) l.p.bounds) l.coefs l.r
