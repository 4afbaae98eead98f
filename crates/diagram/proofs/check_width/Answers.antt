-- `check_width` meets its contract: what a right width is.
use mathlib.Core.Path.{◌≡◌, sym, ◌∙◌}
use mathlib.Core.Bool.{true, not}
use borrow.Author.Tests.{not-true}
use Rattle.meaning.specs.Calls.{wrong_width}
use Rattle.diagram.proofs.Refused.{width_right}
use Rattle.diagram.proofs.check_width.Goals as goal

pub returns-clause-ok : goal.returns-clause-ok
returns-clause-ok c =
    let e : not (wrong_width c.args.w) ≡ true = sym c.width_is_right.ensures ∙ c.if-not-width_is_right.false in
    let r = width_right c.args.w e in
    (not-true _ e, r.0, r.1)
