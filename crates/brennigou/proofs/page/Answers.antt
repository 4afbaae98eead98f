-- `page` meets its contract: the page is that of what the file says.
use Rattle.std.proofs.Common.{◌≡◌, ap, ◌∙◌, to_z-of_z}
use Rattle.laws.specs.Z.{back}
use Rattle.meaning.specs.Calls.{Count, Done, page_on, page_call}
use Rattle.problem.specs.Held.{campaign_of}
use Rattle.diagram.specs.Answers.{lent_of}
use Rattle.brennigou.proofs.Opened.{page_read}
use Rattle.brennigou.proofs.page.Goals as goal
use Rattle.brennigou.proofs.page.Goals.{After-page}

asked : (c : After-page) → let l = lent_of c.args.arcs.now c.args.cells.now c.args.page.now in page_on (campaign_of c.problem_into.new.problem) c.args.width c.args.rounds (back c.args.ceiling) c.args.start.now l ≡ page_call c.args.file.now c.args.width c.args.rounds c.args.ceiling c.args.start.now l
asked c = page_read c.args.file.now c.in-Ok.ensures.campaign c.args.width c.args.rounds (to_z-of_z c.ranges.ceiling) c.args.start.now (lent_of c.args.arcs.now c.args.cells.now c.args.page.now)

pub returns-in-Ok-clause-answer : goal.returns-in-Ok-clause-answer
returns-in-Ok-clause-answer c = c.page.ensures.answer ∙ ap (λ (d : Done Count). d.answer) (asked (goal.at.returns-in-Ok-clause-answer c).After-page)

pub returns-in-Ok-clause-arcs : goal.returns-in-Ok-clause-arcs
returns-in-Ok-clause-arcs c = c.page.ensures.arcs ∙ ap (λ (d : Done Count). d.lent.arcs) (asked (goal.at.returns-in-Ok-clause-arcs c).After-page)

pub returns-in-Ok-clause-cells : goal.returns-in-Ok-clause-cells
returns-in-Ok-clause-cells c = c.page.ensures.cells ∙ ap (λ (d : Done Count). d.lent.cells) (asked (goal.at.returns-in-Ok-clause-cells c).After-page)

pub returns-in-Ok-clause-page : goal.returns-in-Ok-clause-page
returns-in-Ok-clause-page c = c.page.ensures.page ∙ ap (λ (d : Done Count). d.lent.plan) (asked (goal.at.returns-in-Ok-clause-page c).After-page)
