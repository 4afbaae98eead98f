-- `check_numbers` meets its contract: what right numbers are.
use mathlib.Core.Path.{◌≡◌, sym, ap, ◌∙◌}
use mathlib.Core.Bool.{true, not}
use borrow.Author.Tests.{not-true}
use lib.IntN.{ℤ}
use mir.Facts.{to_z-of_z}
use Rattle.meaning.specs.Calls.{wrong_numbers}
use Rattle.diagram.proofs.Refused.{numbers_right}
use Rattle.diagram.proofs.check_numbers.Goals as goal
use Rattle.diagram.proofs.check_numbers.Goals.{After-numbers_are_right}

-- the ceiling is read again from its bits
told : (c : After-numbers_are_right) → c.numbers_are_right.result ≡ not (wrong_numbers c.args.w c.args.rounds c.args.ceiling)
told c = c.numbers_are_right.ensures ∙ ap (λ (z : ℤ). not (wrong_numbers c.args.w c.args.rounds z)) (to_z-of_z c.ranges.ceiling)

pub returns-clause-ok : goal.returns-clause-ok
returns-clause-ok c =
    let a = c.args in
    let e : not (wrong_numbers a.w a.rounds a.ceiling) ≡ true = sym (told (goal.at.returns-clause-ok c).After-numbers_are_right) ∙ c.if-not-numbers_are_right.false in
    let r = numbers_right a.w a.rounds a.ceiling e in
    (not-true _ e, r.0, r.1, r.2)
