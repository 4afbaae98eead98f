-- `at_most` meets its contract: a turn asks of one lane, the last lane is asked before all others.
use Rattle.lanes.proofs.Laws.{Asked}
use Rattle.lanes.proofs.at_most.Given as goal

abbrev pub invariant-loop-k : goal.invariant-loop-k
invariant-loop-k l = Asked l.x l.limit l.ok l.k
