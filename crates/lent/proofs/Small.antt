-- Is the campaign of a problem in range small enough for lanes? It is.
use mathlib.Core.Path.{◌≡◌, refl}
use mathlib.Core.Bool.{true, ◌&&◌}
use Prim.Native.Nat.{ℕ, ◌<◌}
use native.Mathlib.Omega.{arith}
use lib.ListN.{length, length-map}
use lib.IntN.{ℤ, pos}
use Rattle.laws.specs.Z.{zarith, parts, Within}
use Rattle.laws.proofs.Each.{each_map}
use Rattle.meaning.specs.Plan.{bit}
use Rattle.meaning.specs.Problem.{Terms, among, sums, Problem, share_of, rule_of, campaign, version1, in_range}
use Rattle.meaning.proofs.Sizes.{either}
use Rattle.meaning.proofs.Ranges.{weighed_within}
use Rattle.meaning.proofs.Faultless.{RightTerms, RightLead, RightFields, in_range_lem}
use Rattle.lent.specs.Small.{Small}

module _ (n : ℕ) where
  pub terms_share : (t : Terms) → RightTerms version1 n t → (i v : ℕ) → v < 8 → Within 7000 (share_of t i v)
  terms_share (among s t) h i v l = either (bit s v && bit t i) (record { size = omega arith }) (record { size = omega arith })
  terms_share (sums c) h i v l = weighed_within 1000 c h i v l

  no_lead : (t : Terms) (z : ℤ) → RightLead version1 t z → z ≡ pos 0
  no_lead (among s t) z h = omega (zarith, h.0, h.1)
  no_lead (sums c) z h = omega (zarith, parts z, h.size)

pub small : (p : Problem) → in_range version1 p ≡ true → Small (campaign p)
small p e =
    let n = length p.sets in
    let right = in_range_lem version1 p e in
    let shares = each_map (RightFields version1 n) (λ r. (i v : ℕ) → v < 8 → Within 7000 (r.share i v)) rule_of (λ r h. terms_share n r.terms h.terms) p.rules right.rules in
    let starts = each_map (RightFields version1 n) (λ r. r.start ≡ pos 0) rule_of (λ r h. no_lead n r.terms r.lead h.lead) p.rules right.rules in
    let bounds = each_map (RightFields version1 n) (λ r. Within 200000 r.lb × Within 200000 r.ub) rule_of (λ r h. (h.low, h.high)) p.rules right.rules in
    record {
      steps = refl;
      slots = right.head.most;
      rules = omega (arith, length-map p.rules rule_of, right.head.rules);
      shares = shares;
      prices = weighed_within 10000 p.weights right.weights;
      starts = starts;
      bounds = bounds;
    }
