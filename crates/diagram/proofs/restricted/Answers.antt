-- `restricted` meets its contract: 8 and 11 are tested, the guard never holds, and then all is done.
use mathlib.Core.Path.{◌≡◌, sym, ap, ◌∙◌}
use mathlib.Core.Bool.{◌||◌}
use borrow.Author.Rules.{rules}
use Rattle.laws.proofs.Lists.{or_neither}
use Rattle.meaning.specs.Problem.{version1}
use Rattle.meaning.specs.Running.{restricted_numbers}
use Rattle.meaning.specs.Calls.{Done, Bound, wrong_width, short_diagram, short_plan, restricted_done, no_bound}
use Rattle.problem.specs.Held.{fault_in, campaign_of}
use Rattle.diagram.specs.Answers.{lent_of}
use Rattle.diagram.proofs.Refused.{served, unrefused, restricted_stays}
use Rattle.diagram.proofs.restricted.Goals as goal

pub returns-in_err-guard_of : goal.returns-in_err-guard_of
returns-in_err-guard_of c =
    let f : fault_in version1 c.args.problem.now.problem ≡ 0 = search rules in
    absurd (unrefused c.args.problem.now.problem f _ c.in_err-guard_of.ensures)

pub returns : goal.returns
returns c =
    let a = c.args in
    let p = a.problem.now.problem in
    let q = campaign_of p in
    let f : fault_in version1 p ≡ 0 = search rules in
    let l = lent_of a.arcs.now a.cells.now a.plan.now in
    let room = or_neither (short_diagram q a.width l) (short_plan q l) c.in_ok-check_room.ensures.ok.0 c.in_ok-check_plan.ensures.ok.0 in
    let g = served (wrong_width a.width) (short_diagram q a.width l || short_plan q l) (restricted_numbers q a.width) (no_bound l) (restricted_done q a.width l) c.in_ok-check_width.ensures.ok.0 room (restricted_stays p f a.width) in
    let done = sym g in
    let r = c.restrict.ensures in
    record { answer = r.value ∙ ap (λ (d : Done Bound). d.answer) done; arcs = r.arcs ∙ ap (λ (d : Done Bound). d.lent.arcs) done; cells = r.cells ∙ ap (λ (d : Done Bound). d.lent.cells) done; plan = r.plan ∙ ap (λ (d : Done Bound). d.lent.plan) done; unchanged = tt }
