-- `raise_node` meets its contract: a turn counts and tests one arc.
use Rattle.rows.proofs.Up.{Tested}
use Rattle.rows.proofs.raise_node.Given as goal

abbrev pub invariant-loop-v : goal.invariant-loop-v
invariant-loop-v l = Tested l.row l.next l.room l.fn.arcs l.arcs l.up l.fell l.v
