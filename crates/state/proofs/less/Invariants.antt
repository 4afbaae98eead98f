-- Place by place the difference. The first k places are done.
use mathlib.Core.List.{map}
use Rattle.state.specs.Pairs.{pair_of}
use Rattle.state.proofs.Joined.{lessen}
use Rattle.state.proofs.Turns.{JoinedTo}
use Rattle.state.proofs.less.Given as goal

abbrev pub invariant-loop-k : goal.invariant-loop-k
invariant-loop-k l = JoinedTo lessen l.s.at (map pair_of l.u.at) l.k l.t.at
