-- `bring_node` meets its contract: what the arcs from v on bring to the row as it stands is what all bring to the first.
use Rattle.std.proofs.Common.{◌≡◌, drop}
use Rattle.lent.specs.Passes.{bring_node}
use Rattle.state.specs.Pairs.{pairs}
use Rattle.rows.proofs.Down.{lanes_of}
use Rattle.rows.proofs.bring_node.Given as goal

abbrev pub invariant-loop-v : goal.invariant-loop-v
invariant-loop-v l = bring_node l.row (lanes_of (pairs l.x) l.cost) l.v (drop l.v l.arcs) l.next ≡ bring_node l.row (lanes_of (pairs l.x) l.cost) 0 l.arcs l.fn.next
