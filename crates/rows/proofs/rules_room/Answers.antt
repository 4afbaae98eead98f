use mathlib.Core.Path.{◌∙◌}
use Prim.Native.Nat.{◌+◌, ◌*◌}
use lib.ListN.{get_or}
use lib.IntN.{pos}
use Rattle.lanes.proofs.Laws.{lane_within}
use Rattle.rows.proofs.Lanes.{bits_no}
use Rattle.rows.proofs.Free.{roomed_start, roomed_more, roomed_end, plus_turned, sum_told, dif_told, room_limit}
use borrow.Author.Rules.{rules}
use Rattle.rows.proofs.rules_room.Goals as goal

pub loop-r-init : goal.loop-r-init
loop-r-init c = roomed_start c.args.m c.args.cells.now c.args.limit c.requires.0 (search rules)

pub loop-r-preserved : goal.loop-r-preserved
loop-r-preserved c =
    let limit = c.args.limit in
    let cells = c.args.cells.now in
    let r = c.loop-r.r in
    roomed_more c.loop-r.invariant c.loop-r-test.true (dif_told (lane_within limit r c.requires.1) (lane_within cells (4 * r + 1) c.requires.3))
    (sum_told (lane_within limit (8 + r) c.requires.1) (lane_within cells (4 * r + 2) c.requires.3) ∙ plus_turned (get_or limit (8 + r) (pos 0)) (get_or cells (4 * r + 2) (pos 0)))

pub returns : goal.returns
returns c =
    let a = c.args in
    let cells = a.cells.now in
    let there = bits_no (get_or cells 0 (pos 0)) 0 c.if-cells-eq0.false in
    roomed_end c.loop-r.invariant c.loop-r-test.false there (dif_told (lane_within a.limit 16 c.requires.1) (lane_within cells (4 * a.m + 1) c.requires.3))
    ∙ room_limit a.m a.free a.limit cells there c.if-free.false
