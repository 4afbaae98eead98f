-- Before turn k the first k rules are those of the first k pairs, and behind them there is none.
use Rattle.std.proofs.Common.{◌≡◌, take}
use Rattle.laws.specs.Lists.{padded}
use Rattle.problem.specs.declared.Terms.TheVariants.{Neither}
use Rattle.planner.proofs.Tables.{pair_terms}
use Rattle.planner.proofs.sample_terms.Given as goal

abbrev pub invariant-loop-k : goal.invariant-loop-k
invariant-loop-k l = l.terms ≡ padded 8 Neither (take l.k pair_terms)
