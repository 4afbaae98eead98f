-- `take_downs` meets its contract: a turn lays one node's lanes.
use Prim.Native.Nat.{◌+◌, ◌*◌}
use Rattle.lent.specs.Passes.{down_lanes}
use Rattle.rows.proofs.Laid.{Laying}
use Rattle.rows.proofs.Layers.{made}
use Rattle.rows.proofs.take_downs.Given as goal

abbrev pub invariant-loop-j : goal.invariant-loop-j
invariant-loop-j l = Laying 17 l.w (made (down_lanes l.m) l.w (4 * l.m + 3) l.cells) l.fn.here l.here l.j
