use mathlib.Core.Path.{◌∙◌}
use Prim.Native.Nat.{◌+◌, ◌*◌}
use lib.ListN.{get_or}
use lib.IntN.{pos}
use Rattle.laws.specs.Z.{back_is}
use Rattle.lanes.proofs.Laws.{lane_within, halved_end}
use Rattle.rows.proofs.Lanes.{bits_no}
use Rattle.rows.proofs.Cells.{turned, down_start, down_more, down_cost}
use Rattle.rows.proofs.lanes_down.Goals as goal

pub loop-r-init : goal.loop-r-init
loop-r-init c =
    let cells = c.args.cells.now in
    down_start c.args.m cells (bits_no (get_or cells 0 (pos 0)) 0 c.if-cells-eq0.false) c.requires.0

pub loop-r-preserved : goal.loop-r-preserved
loop-r-preserved c =
    let cells = c.args.cells.now in
    let l = c.loop-r in
    down_more c.args.m cells (bits_no (get_or cells 0 (pos 0)) 0 c.if-cells-eq0.false) c.requires.0 l.invariant c.loop-r-test.true (back_is (lane_within cells (4 * l.r + 1) c.requires.2) tt)
    (turned (lane_within cells (4 * l.r + 2) c.requires.2) tt)

pub returns : goal.returns
returns c =
    let m = c.args.m in
    let cells = c.args.cells.now in
    let there = bits_no (get_or cells 0 (pos 0)) 0 c.if-cells-eq0.false in
    halved_end c.loop-r.invariant c.loop-r-test.false (back_is (lane_within cells (4 * m + 1) c.requires.2) tt ∙ down_cost m cells there)
