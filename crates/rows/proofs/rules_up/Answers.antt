use Prim.Native.Nat.{◌+◌}
use lib.ListN.{length, get_or}
use lib.IntN.{pos}
use Rattle.laws.specs.Z.{back_is}
use Rattle.lent.specs.Passes.{down_lanes}
use Rattle.lanes.proofs.Laws.{lane_within}
use Rattle.rows.proofs.Lanes.{bits_no, far_yes, far_no}
use Rattle.rows.proofs.Cells.{turned, stored_up, stored_last, no_up, down_low, down_high, down_cost, half_long, half_near, half_start}
use Rattle.rows.proofs.rules_up.Goals as goal

pub returns-then-up-eq-FAR : goal.returns-then-up-eq-FAR
returns-then-up-eq-FAR c =
    let a = c.args in
    no_up a.m (length a.cells.now) (down_lanes a.m a.cells.now) a.up.now (half_long a.m a.cells.now c.requires.3) c.zero_cells.ensures (far_yes a.up.now c.requires.2 c.if-up-eq-FAR.true)

pub loop-r-init : goal.loop-r-init
loop-r-init c = let a = c.args in half_start a.m a.cells.now c.requires.3 (bits_no (get_or a.cells.now 0 (pos 0)) 0 c.if-cells-eq0.false) a.up.now

pub loop-r-preserved : goal.loop-r-preserved
loop-r-preserved c =
    let a = c.args in
    let u = a.up.now in
    let r = c.loop-r.r in
    let t = c.loop-r-test.true in
    let there = bits_no (get_or a.cells.now 0 (pos 0)) 0 c.if-cells-eq0.false in
    stored_up c.loop-r.invariant t (down_low a.m a.cells.now there r c.requires.0 t) (down_high a.m a.cells.now there r c.requires.0 t) (back_is (lane_within u r c.requires.2) tt) (turned (lane_within u (8 + r) c.requires.2) tt)

pub returns : goal.returns
returns c =
    let a = c.args in
    let u = a.up.now in
    let cells = a.cells.now in
    let there = bits_no (get_or cells 0 (pos 0)) 0 c.if-cells-eq0.false in
    stored_last c.loop-r.invariant c.loop-r-test.false (half_near a.m cells c.requires.3 there) (far_no u c.if-up-eq-FAR.false) (down_cost a.m cells there) (back_is (lane_within u 16 c.requires.2) tt)
