-- `keys_of` meets its contract: the keys of j nodes, and then those of v steps.
use Rattle.classes.proofs.Children.{KeysTo}
use Rattle.classes.proofs.keys_of.Given as goal

abbrev pub invariant-loop-j : goal.invariant-loop-j
invariant-loop-j l = KeysTo l.here l.row l.j 0 l.keys

abbrev pub invariant-loop-v : goal.invariant-loop-v
invariant-loop-v l = KeysTo l.here l.row l.nodes l.v l.keys
