use Rattle.std.proofs.Common.{rules, arith, ◌≡◌, ◌∙◌, sym, true, false, ◌<◌, length, get_or}
use Rattle.std.proofs.lemmas.List.{get_or_default}
use Rattle.laws.proofs.Left.{places_go, places_stop, places_end}
use Rattle.meaning.specs.Plan.{keeps_rule}
use Rattle.meaning.specs.Problem.{version1, rule_of}
use Rattle.problem.specs.declared.Terms.TheVariants.{Among, Neither}
use Rattle.problem.specs.Held.{rule_said, no_bounds}
use Rattle.problem.proofs.Faultless.{Right, right, right_small}
use Rattle.judge.proofs.Lawful.{kept_at, kept_all}
use Rattle.judge.proofs.keeps_rules.Goals as goal
use Rattle.judge.proofs.keeps_rules.Goals.{After-keeps_rule, Start}

sound : (s : Start) → Right version1 s.args.problem.now
sound s = right version1 s.args.problem.now s.requires.sound

pub keeps_rule-requires-clause-coefs : goal.keeps_rule-requires-clause-coefs
keeps_rule-requires-clause-coefs c i h =
    let r = sound (goal.at.keeps_rule-requires-clause-coefs c).Start in
    let p = c.args.problem.now in
    let k = c.loop-k.k in
    let room : length p.terms ≡ 8 = search rules in
    let below : k < length p.terms = omega (arith, r.head.rules) in
    rw (get_or_default p.terms k (Among 0 0) Neither below) (right_small p k i (r.rule k c.loop-k-test.true) (omega (arith, c.requires.slots)))

-- the test of the fields that were read is the test of rule k
same_test : (c : After-keeps_rule) → c.keeps_rule.result ≡ kept_at c.args.plan.now c.args.problem.now c.loop-k.k
same_test c =
    let p = c.args.problem.now in
    let k = c.loop-k.k in
    let r = sound (goal.at.After-keeps_rule c).Start in
    let room : length p.terms ≡ 8 = search rules in
    let below : k < length p.terms = omega (arith, r.head.rules) in
    c.keeps_rule.ensures
    ∙ (λ i. keeps_rule c.args.plan.now (rule_of (rule_said (c.requires.slots i) (get_or_default p.terms k (Among 0 0) Neither below i) (get_or p.bounds k no_bounds))))

pub returns-then-not-keeps_rule : goal.returns-then-not-keeps_rule
returns-then-not-keeps_rule c =
    let p = c.args.problem.now in
    let plan = c.args.plan.now in
    let no : kept_at plan p c.loop-k.k ≡ false = sym (same_test (goal.at.returns-then-not-keeps_rule c).After-keeps_rule) ∙ c.if-not-keeps_rule.true in
    places_stop (kept_at plan p) p.rules c.loop-k.k c.loop-k-test.true no c.loop-k.invariant ∙ sym (kept_all plan p)

pub loop-k-preserved : goal.loop-k-preserved
loop-k-preserved c =
    let p = c.args.problem.now in
    let plan = c.args.plan.now in
    let yes : kept_at plan p c.loop-k.k ≡ true = sym (same_test (goal.at.loop-k-preserved c).After-keeps_rule) ∙ c.if-not-keeps_rule.false in
    places_go (kept_at plan p) p.rules c.loop-k.k c.loop-k-test.true yes c.loop-k.invariant

pub returns : goal.returns
returns c =
    let p = c.args.problem.now in
    let plan = c.args.plan.now in
    places_end (kept_at plan p) p.rules c.loop-k.k c.loop-k-test.false c.loop-k.invariant ∙ sym (kept_all plan p)
