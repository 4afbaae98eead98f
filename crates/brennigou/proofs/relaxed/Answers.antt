-- `relaxed` meets its contract: the diagram is that of what the file says.
use Rattle.std.proofs.Common.{◌≡◌, ap, ◌∙◌, [], to_z-of_z}
use Rattle.laws.specs.Z.{back}
use Rattle.meaning.specs.Calls.{Bound, Done, relaxed_of, relaxed_call}
use Rattle.problem.specs.Held.{campaign_of}
use Rattle.diagram.specs.Answers.{lent_of}
use Rattle.brennigou.proofs.Opened.{relaxed_read}
use Rattle.brennigou.proofs.relaxed.Goals as goal
use Rattle.brennigou.proofs.relaxed.Goals.{After-relaxed}

asked : (c : After-relaxed) → let l = lent_of c.args.arcs.now c.args.cells.now [] in relaxed_of (campaign_of c.problem_into.new.problem) c.args.width c.args.rounds (back c.args.ceiling) l ≡ relaxed_call c.args.file.now c.args.width c.args.rounds c.args.ceiling l
asked c = relaxed_read c.args.file.now c.in-Ok.ensures.campaign c.args.width c.args.rounds (to_z-of_z c.ranges.ceiling) (lent_of c.args.arcs.now c.args.cells.now [])

pub returns-in-Ok-clause-answer : goal.returns-in-Ok-clause-answer
returns-in-Ok-clause-answer c = c.relaxed.ensures.answer ∙ ap (λ (d : Done Bound). d.answer) (asked (goal.at.returns-in-Ok-clause-answer c).After-relaxed)

pub returns-in-Ok-clause-arcs : goal.returns-in-Ok-clause-arcs
returns-in-Ok-clause-arcs c = c.relaxed.ensures.arcs ∙ ap (λ (d : Done Bound). d.lent.arcs) (asked (goal.at.returns-in-Ok-clause-arcs c).After-relaxed)

pub returns-in-Ok-clause-cells : goal.returns-in-Ok-clause-cells
returns-in-Ok-clause-cells c = c.relaxed.ensures.cells ∙ ap (λ (d : Done Bound). d.lent.cells) (asked (goal.at.returns-in-Ok-clause-cells c).After-relaxed)
