-- `downs` meets its contract: a turn lays the cells of one layer and brings its numbers to the next.
use Prim.Native.Nat.{◌+◌, ◌*◌, ◌≤◌}
use lib.ListN.{length}
use Rattle.meaning.specs.Buffers.{arcs_in}
use Rattle.problem.specs.Held.{campaign_of}
use Rattle.lent.specs.Passes.{Spare}
use Rattle.numbers.proofs.Passes.{Down}
use Rattle.numbers.proofs.downs.Given as goal

abbrev pub invariant-loop-i : goal.invariant-loop-i
invariant-loop-i l =
    let p = l.fn.p in
    let q = campaign_of p in
    let size = l.w * (4 * p.rules + 3) in record {
      place : l.i * size + size ≤ length l.fn.cells;
      spare : Spare l.spare;
      down : Down q l.w p.slots p.rules (arcs_in q l.w l.arcs) l.cells l.here l.i;
    }
