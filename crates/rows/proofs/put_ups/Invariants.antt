-- `put_ups` meets its contract: a turn lays one node's up numbers beside its down numbers.
use Prim.Native.Nat.{◌+◌, ◌*◌}
use Rattle.rows.proofs.Laid.{Laying}
use Rattle.rows.proofs.Layers.{ups_left}
use Rattle.rows.proofs.put_ups.Given as goal

abbrev pub invariant-loop-j : goal.invariant-loop-j
invariant-loop-j l = Laying (4 * l.m + 3) l.w (ups_left l.m l.w l.here l.fn.cells) l.fn.cells l.cells l.j
