use Rattle.std.proofs.Common.{rules, tests, ◌∙◌, sym}
use Rattle.std.proofs.lemmas.Iterator.{YieldsList-from_slice}
use Rattle.std.proofs.lemmas.Iterator.Search.{all_from_yields_List}
use Rattle.laws.proofs.Chains.{every_all}
use Rattle.meaning.specs.Problem.{right_set}
use Rattle.problem.proofs.sets_are_right.Goals as goal

pub returns : goal.returns
returns c =
    all_from_yields_List right_set _ _ c.all.result c.all.ensures.ran (YieldsList-from_slice c.args.sets.now cc) (λ x b q k. search (rules, tests))
    ∙ sym (every_all right_set c.args.sets.now)
