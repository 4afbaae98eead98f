-- The rules are tested side by side in their two arrays, and the meanings test them place by place.
use Rattle.std.proofs.Common.{rules, ◌≡◌, ◌∙◌, sym, arith, length}
use Rattle.laws.specs.Lists.{every, from}
use Rattle.meaning.specs.Problem.{version1}
use Rattle.meaning.proofs.Faultless.{HeadRange, test_range}
use Rattle.problem.specs.Held.{right_at}
use Rattle.problem.proofs.Rules.{rules_test}
use Rattle.problem.proofs.Problem.fault.Goals as goal
use Rattle.problem.proofs.Problem.fault.Goals.{After-rules_are_right, Start}

-- past the head
range : (c : After-rules_are_right) → HeadRange c.args.self.now.slots c.args.self.now.rules
range c = test_range _ _ (sym c.head_is_right.ensures ∙ c.if-not-head_is_right.false)

same_test : (c : After-rules_are_right) → every (right_at version1 c.args.self.now) (from 0 c.args.self.now.rules) ≡ c.rules_are_right.result
same_test c =
    let t : length c.args.self.now.terms ≡ 8 = search rules in
    let b : length c.args.self.now.bounds ≡ 8 = search rules in
    let r = range c in
    rules_test version1 c.args.self.now (omega (arith, r.rules)) (omega (arith, r.rules)) ∙ sym c.rules_are_right.ensures

pub returns-then-not-rules_are_right : goal.returns-then-not-rules_are_right
returns-then-not-rules_are_right c =
    rw (sym c.head_is_right.ensures ∙ c.if-not-head_is_right.false, sym c.sets_are_right.ensures ∙ c.if-not-sets_are_right.false, sym c.weights_are_right.ensures ∙ c.if-not-weights_are_right.false, same_test (goal.at.returns-then-not-rules_are_right c).After-rules_are_right, c.if-not-rules_are_right.true)

pub returns : goal.returns
returns c =
    rw (sym c.head_is_right.ensures ∙ c.if-not-head_is_right.false, sym c.sets_are_right.ensures ∙ c.if-not-sets_are_right.false, sym c.weights_are_right.ensures ∙ c.if-not-weights_are_right.false, same_test (goal.at.returns c).After-rules_are_right, c.if-not-rules_are_right.false)
