-- `ups` meets its contract: a turn raises the numbers of one layer, tests its arcs and, as long as none fell, lays its cells.
use Prim.Native.Nat.{◌+◌, ◌-◌, ◌*◌, ◌≤◌}
use lib.ListN.{length}
use Rattle.meaning.specs.Buffers.{arcs_in}
use Rattle.problem.specs.Held.{campaign_of}
use Rattle.lent.specs.Vec.{test_of}
use Rattle.numbers.proofs.Passes.{Up}
use Rattle.numbers.proofs.ups.Given as goal

abbrev pub invariant-loop-i : goal.invariant-loop-i
invariant-loop-i l =
    let p = l.fn.p in
    let q = campaign_of p in
    let a = arcs_in q l.w l.fn.arcs in
    let size = l.w * (4 * p.rules + 3) in record {
      place : (l.i - 1) * size + size ≤ length l.fn.cells;
      up : Up q l.w p.slots p.rules a (test_of l.free l.ceiling) l.fn.arcs l.fn.cells l.free l.arcs l.cells l.next l.first l.i;
    }
