-- `build` meets its contract: a turn builds the layer of one slot, and brings its down numbers to the next.
use Prim.Native.Nat.{◌+◌, ◌*◌, ◌≤◌}
use lib.ListN.{length}
use Rattle.state.specs.Pairs.{pairs}
use Rattle.layer.specs.Places.{builder_of}
use Rattle.building.proofs.Problems.{Sizes, Going}
use Rattle.building.proofs.build.Given as goal

abbrev pub invariant-loop-i : goal.invariant-loop-i
invariant-loop-i l =
    let p = l.fn.p in
    let size = l.w * (4 * p.rules + 3) in record {
      sizes : Sizes p l.w (length l.fn.arcs) (length l.fn.cells);
      place : l.i * size + size ≤ length l.fn.cells;
      going : Going p l.coefs l.values (builder_of l.builder) l.w (length l.fn.arcs) (pairs l.bounds) l.table l.arcs l.cells l.here l.spare l.row l.nodes l.exact l.i;
    }
