-- `put_downs` meets its contract: a turn lays one node's cells.
use Prim.Native.Nat.{◌+◌, ◌*◌}
use Rattle.rows.proofs.Laid.{Laying}
use Rattle.rows.proofs.Layers.{downs_left}
use Rattle.rows.proofs.put_downs.Given as goal

abbrev pub invariant-loop-j : goal.invariant-loop-j
invariant-loop-j l = Laying (4 * l.m + 3) l.w (downs_left l.m l.w l.here) l.fn.cells l.cells l.j
