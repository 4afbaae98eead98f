-- Place by place the share of the row is added. The first k places are the child's.
use Rattle.state.specs.Pairs.{shares_at}
use Rattle.state.proofs.Joined.{add}
use Rattle.state.proofs.Turns.{JoinedTo}
use Rattle.state.proofs.child.Given as goal

abbrev pub invariant-loop-k : goal.invariant-loop-k
invariant-loop-k l = JoinedTo add l.s.at (shares_at l.row l.v) l.k l.t.at
