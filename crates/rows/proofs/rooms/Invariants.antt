-- `rooms` meets its contract: a turn lays one node's room.
use Prim.Native.Nat.{◌+◌, ◌*◌}
use Rattle.lent.specs.Passes.{room_lanes}
use Rattle.rows.proofs.Laid.{Laying}
use Rattle.rows.proofs.Layers.{made}
use Rattle.rows.proofs.rooms.Given as goal

abbrev pub invariant-loop-j : goal.invariant-loop-j
invariant-loop-j l = Laying 17 l.w (made (room_lanes l.m l.free l.limit) l.w (4 * l.m + 3) l.cells) l.fn.room l.room l.j
