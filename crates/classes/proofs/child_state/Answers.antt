-- `child_state` meets its contract: a node's totals and a step's shares.
use Prim.Native.Nat.{◌/◌, ◌%◌, ◌<◌}
use native.Mathlib.Nat.{mod-lt}
use native.Mathlib.Omega.{arith}
use Rattle.classes.proofs.Children.{steps_room, node_fits, step_fits}
use Rattle.classes.proofs.child_state.Goals as goal

pub child-requires : goal.child-requires
child-requires c =
    let held = c.requires.0 in
    let f = c.args.f in
    let low : f % 8 < 8 = mod-lt f (omega arith) in
    (low, steps_room held, rw c.taken.ensures (node_fits held (f / 8)), step_fits held (f % 8) low)
