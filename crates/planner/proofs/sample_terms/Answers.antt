use Rattle.std.proofs.Common.{arith}
use Rattle.problem.specs.declared.Terms.TheVariants.{Neither}
use Rattle.planner.proofs.Tables.{copied, pair_terms, pair_term}
use Rattle.planner.proofs.sample_terms.Goals as goal

-- a turn adds the next pair's rule
pub loop-k-preserved : goal.loop-k-preserved
loop-k-preserved c =
    let l = c.loop-k in
    copied Neither 8 l.k pair_terms l.invariant (pair_term l.k c.both.result c.loop-k-test.true c.both.ensures) c.loop-k-test.true (omega arith)
