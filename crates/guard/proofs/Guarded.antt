-- When does the guard refuse a problem? Its price and its rules are tested over the sets of its slots.
use mathlib.Core.Path.{◌≡◌, refl, ◌∙◌}
use mathlib.Core.Bool.{Bool, not, ◌&&◌}
use mathlib.Core.List.{List, map}
use Prim.Native.Nat.{ℕ, ◌≤◌}
use native.Mathlib.Nat.{zero-add}
use lib.Dec.{leb}
use lib.ListN.{length, take}
use lib.Seq.{length-take-le, get_or-take}
use Rattle.std.specs.List.{list_all}
use Rattle.laws.specs.Lists.{every, from}
use Rattle.laws.proofs.Chains.{every_all}
use Rattle.laws.proofs.Filled.{every_places}
use Rattle.laws.proofs.Left.{every_map}
use Rattle.meaning.specs.Plan.{Campaign}
use Rattle.meaning.specs.Problem.{limit, rule_of}
use Rattle.meaning.specs.Running.{rule_size, guard}
use Rattle.problem.specs.declared.Problem.{Problem}
use Rattle.problem.specs.declared.Terms.TheVariants.{Sum, Neither}
use Rattle.problem.specs.Held.{said_at, campaign_of}
use Rattle.guard.specs.Size.{fits}

module _ (p : Problem) (few : p.slots ≤ length p.sets) (room : p.rules ≤ length p.terms) where
  abbrev q : Campaign
  q = campaign_of p

  abbrev sets : List ℕ
  sets = take p.slots p.sets

  count : length sets ≡ p.slots
  count = length-take-le p.slots p.sets few

  abbrev at : ℕ → Bool
  at z = leb z limit

  rules : every at (map (rule_size q) q.rules) ≡ list_all (fits sets) (take p.rules p.terms)
  rules =
      let m : length (take p.rules p.terms) ≡ p.rules = length-take-le p.rules p.terms room in
      every_map at (rule_size q) q.rules
      ∙ every_map (λ r. at (rule_size q r)) rule_of (map (said_at p) (from 0 p.rules))
      ∙ every_map (λ r. at (rule_size q (rule_of r))) (said_at p) (from 0 p.rules)
      ∙ rw m at (every_places (λ k. at (rule_size q (rule_of (said_at p k)))) (fits sets) (take p.rules p.terms) Neither (λ k h. let b = rw m at h in rw (get_or-take p.rules p.terms k Neither b, count, zero-add) refl))
      ∙ every_all (fits sets) (take p.rules p.terms)

  pub guard_is : guard q ≡ not (fits sets (Sum p.weights) && list_all (fits sets) (take p.rules p.terms))
  guard_is = rw (count, rules) refl
