use Rattle.std.proofs.Common.{rules, arith, ◌≡◌, ◌∙◌, sym, length}
use lib.Seq.{length-take-le}
use Rattle.meaning.specs.Problem.{version1}
use Rattle.problem.proofs.Faultless.{Right, right}
use Rattle.judge.specs.Answers.{Steps}
use Rattle.judge.proofs.Lawful.{allowed_steps}
use Rattle.judge.proofs.judge_plan.Goals as goal
use Rattle.judge.proofs.judge_plan.Goals.{Else-not-is_allowed, Start}

sound : (s : Start) → Right version1 s.args.problem.now.problem
sound s = right version1 s.args.problem.now.problem s.args.problem.now.sound

-- the steps are allowed
steps : (c : Else-not-is_allowed) → (length c.args.plan.now ≡ c.args.problem.now.problem.slots) × Steps c.args.plan.now
steps c =
    let sets : length c.args.problem.now.problem.sets ≡ 24 = search rules in
    allowed_steps c.args.problem.now.problem c.args.plan.now (sound (goal.at.Else-not-is_allowed c).Start) sets (sym c.is_allowed.ensures ∙ c.if-not-is_allowed.false)

pub keeps_rules-requires-clause-slots : goal.keeps_rules-requires-clause-slots
keeps_rules-requires-clause-slots c = (steps (goal.at.keeps_rules-requires-clause-slots c).Else-not-is_allowed).0

pub keeps_rules-requires-clause-steps : goal.keeps_rules-requires-clause-steps
keeps_rules-requires-clause-steps c = (steps (goal.at.keeps_rules-requires-clause-steps c).Else-not-is_allowed).1

pub cost_of-requires-clause-steps : goal.cost_of-requires-clause-steps
cost_of-requires-clause-steps c = (steps (goal.at.cost_of-requires-clause-steps c).Else-not-is_allowed).1

pub cost_of-requires-clause-count : goal.cost_of-requires-clause-count
cost_of-requires-clause-count c =
    let p = c.args.problem.now.problem in
    let weights : length p.weights ≡ 24 = search rules in
    let r = sound (goal.at.cost_of-requires-clause-count c).Start in
    length-take-le p.slots p.weights (omega (arith, r.head.most)) ∙ sym (steps (goal.at.cost_of-requires-clause-count c).Else-not-is_allowed).0

pub cost_of-requires-clause-weights : goal.cost_of-requires-clause-weights
cost_of-requires-clause-weights c = (sound (goal.at.cost_of-requires-clause-weights c).Start).weights
