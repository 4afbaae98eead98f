use Rattle.std.proofs.Common.{◌∙◌, sym}
use borrow.Author.Tests.{ne_eqb}
use Rattle.judge.proofs.Lawful.{allowed_zip, wrong_length}
use Rattle.judge.proofs.is_allowed.Goals as goal

pub returns-then-plan-sets : goal.returns-then-plan-sets
returns-then-plan-sets c =
    c.are_allowed.ensures ∙ sym (allowed_zip 8 c.args.sets.now c.args.plan.now c.if-plan-sets.true)

pub returns-else-plan-sets : goal.returns-else-plan-sets
returns-else-plan-sets c =
    ne_eqb _ _ c.if-plan-sets.false ∙ sym (wrong_length 8 c.args.sets.now c.args.plan.now c.if-plan-sets.false)
