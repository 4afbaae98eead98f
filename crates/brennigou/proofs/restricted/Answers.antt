-- `restricted` meets its contract: the diagram and the plan shown are those of what the file says.
use Rattle.std.proofs.Common.{◌≡◌, ap, ◌∙◌}
use Rattle.meaning.specs.Calls.{Bound, Done, restricted_of, restricted_call}
use Rattle.problem.specs.Held.{campaign_of}
use Rattle.diagram.specs.Answers.{lent_of}
use Rattle.brennigou.proofs.Opened.{restricted_read}
use Rattle.brennigou.proofs.restricted.Goals as goal
use Rattle.brennigou.proofs.restricted.Goals.{After-restricted}

asked : (c : After-restricted) → let l = lent_of c.args.arcs.now c.args.cells.now c.args.plan.now in restricted_of (campaign_of c.problem_into.new.problem) c.args.width l ≡ restricted_call c.args.file.now c.args.width l
asked c = restricted_read c.args.file.now c.in-Ok.ensures.campaign c.args.width (lent_of c.args.arcs.now c.args.cells.now c.args.plan.now)

pub returns-in-Ok-clause-answer : goal.returns-in-Ok-clause-answer
returns-in-Ok-clause-answer c = c.restricted.ensures.answer ∙ ap (λ (d : Done Bound). d.answer) (asked (goal.at.returns-in-Ok-clause-answer c).After-restricted)

pub returns-in-Ok-clause-arcs : goal.returns-in-Ok-clause-arcs
returns-in-Ok-clause-arcs c = c.restricted.ensures.arcs ∙ ap (λ (d : Done Bound). d.lent.arcs) (asked (goal.at.returns-in-Ok-clause-arcs c).After-restricted)

pub returns-in-Ok-clause-cells : goal.returns-in-Ok-clause-cells
returns-in-Ok-clause-cells c = c.restricted.ensures.cells ∙ ap (λ (d : Done Bound). d.lent.cells) (asked (goal.at.returns-in-Ok-clause-cells c).After-restricted)

pub returns-in-Ok-clause-plan : goal.returns-in-Ok-clause-plan
returns-in-Ok-clause-plan c = c.restricted.ensures.plan ∙ ap (λ (d : Done Bound). d.lent.plan) (asked (goal.at.returns-in-Ok-clause-plan c).After-restricted)
