use Rattle.std.proofs.Common.{rules, tests, ◌∙◌, sym}
use Rattle.std.proofs.lemmas.Iterator.{YieldsList-from_slice}
use Rattle.std.proofs.lemmas.Iterator.Search.{all_from_yields_List}
use Rattle.laws.proofs.Chains.{every_all}
use Rattle.problem.specs.Held.{between}
use Rattle.problem.proofs.are_within.Goals as goal

pub returns : goal.returns
returns c =
    all_from_yields_List (between c.args.low c.args.high) _ _ c.all.result c.all.ensures.ran (YieldsList-from_slice c.args.numbers.now cc) (λ x b q k. search (rules, tests))
    ∙ sym (every_all (between c.args.low c.args.high) c.args.numbers.now)
