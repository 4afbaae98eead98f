-- `relaxed_by` meets its contract: 8 and 11 are tested, the guard never holds, and then all is done.
use mathlib.Core.Path.{◌≡◌, sym, ap, ◌∙◌}
use mathlib.Core.List.{[]}
use mathlib.Core.Bool.{false}
use borrow.Author.Rules.{rules}
use lib.IntN.{ℤ}
use mir.Facts.{to_z-of_z}
use Rattle.meaning.specs.Problem.{version1}
use Rattle.meaning.specs.Running.{relaxed_numbers}
use Rattle.meaning.specs.Calls.{Done, Bound, wrong_numbers, short_diagram, relaxed_done, no_bound}
use Rattle.problem.specs.Held.{fault_in, campaign_of}
use Rattle.diagram.specs.Answers.{lent_of}
use Rattle.diagram.proofs.Refused.{served, unrefused, relaxed_stays}
use Rattle.diagram.proofs.relaxed_by.Goals as goal

pub returns-in_err-guard_of : goal.returns-in_err-guard_of
returns-in_err-guard_of c =
    let f : fault_in version1 c.args.problem.now.problem ≡ 0 = search rules in
    absurd (unrefused c.args.problem.now.problem f _ c.in_err-guard_of.ensures)

pub returns : goal.returns
returns c =
    let a = c.args in
    let p = a.problem.now.problem in
    let q = campaign_of p in
    let f : fault_in version1 p ≡ 0 = search rules in
    let told = to_z-of_z c.ranges.ceiling in
    let l = lent_of a.arcs.now a.cells.now [] in
    let right : wrong_numbers a.width a.rounds a.ceiling ≡ false = ap (λ (z : ℤ). wrong_numbers a.width a.rounds z) (sym told) ∙ c.in_ok-check_numbers.ensures.ok.0 in
    let g = served (wrong_numbers a.width a.rounds a.ceiling) (short_diagram q a.width l) (relaxed_numbers q a.width a.rounds a.ceiling) (no_bound l) (relaxed_done q a.width a.rounds a.ceiling l) right c.in_ok-check_room.ensures.ok.0 (relaxed_stays p f a.width a.rounds a.ceiling) in
    let done = ap (λ (z : ℤ). relaxed_done q a.width a.rounds z l) told ∙ sym g in
    let r = c.relax.ensures in
    record { answer = r.value ∙ ap (λ (d : Done Bound). d.answer) done; arcs = r.arcs ∙ ap (λ (d : Done Bound). d.lent.arcs) done; cells = r.cells ∙ ap (λ (d : Done Bound). d.lent.cells) done; room = c.in_ok-check_room.ensures.ok.1; unchanged = tt }
