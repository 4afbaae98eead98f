-- Place by place least and greatest. The first k places are merged.
use mathlib.Core.List.{map}
use Rattle.meaning.specs.Diagram.{merged}
use Rattle.state.specs.Pairs.{pair_of}
use Rattle.state.proofs.Turns.{JoinedTo}
use Rattle.state.proofs.merged.Given as goal

abbrev pub invariant-loop-k : goal.invariant-loop-k
invariant-loop-k l = JoinedTo merged l.s.at (map pair_of l.u.at) l.k l.t.at
