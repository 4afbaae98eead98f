use mathlib.Core.Path.{◌≡◌, ap, ◌∙◌}
use mathlib.Core.List.{[], ◌∷◌}
use mathlib.Core.Option.{some}
use Prim.Native.Nat.{suc, ◌+◌, ◌*◌}
use native.Mathlib.Omega.{arith}
use lib.ListN.{length, replicate}
use lib.IntN.{pos}
use Rattle.meaning.specs.Buffers.{arcs_in}
use Rattle.problem.specs.Held.{campaign_of}
use Rattle.lent.proofs.Vec.{length_row}
use Rattle.rows.proofs.Laid.{part_long}
use Rattle.std.proofs.Common.{rules}
use Rattle.numbers.proofs.Passes.{origin, Setting, cells_room, sets_long, setting, need_is, slot_asks, row_said, spare_start, slot_right, standing_is, stands_whole, stand_inside, stand_place, byte_place, down_start, down_from, bytes_lower, down_right, down_rest, down_place, down_more, last_place, down_last, down_end}
use Rattle.numbers.proofs.downs.Goals as goal
use Rattle.numbers.proofs.downs.Goals.{Start, else-from-gt0, then-from-gt0}

-- where the pass runs
module _ (c : Start) where
  set : Setting (campaign_of c.args.p) c.args.w c.args.p.slots c.args.p.rules c.args.arcs.now (arcs_in (campaign_of c.args.p) c.args.w c.args.arcs.now)
  set = let x = c.requires.ready in setting x.0 x.2 (sets_long x.1)

  long : length c.args.cells.now ≡ suc c.args.p.slots * (c.args.w * (4 * c.args.p.rules + 3))
  long = let x = c.requires.ready in x.3 ∙ need_is x.0 (sets_long x.1)

pub returns-then-from-p : goal.returns-then-from-p
returns-then-from-p c = let x = c.requires.ready in stands_whole x.0 (sets_long x.1) x.2 x.3 x.4 (omega arith)

pub take_downs-requires : goal.take_downs-requires
take_downs-requires c =
    let a = c.args in
    let x = c.requires.ready in
    let z = (goal.at.take_downs-requires c).Start in
    let size = a.w * (4 * a.p.rules + 3) in
    let r = standing_is x.0 (sets_long x.1) x.4 c.if-from-gt0.true in (
      c.requires.sized.rules,
      c.requires.sized.width,
      part_long (a.from * size) size a.cells.now (stand_place (set z) a.cells.now a.from r.0 (long z) r.1),
      stand_inside (set z) a.cells.now a.from r.0 (long z) r.1,
      ap length c.one_node-here.ensures ∙ length_row (some (replicate a.p.rules origin, pos 0) ∷ []),
    )

pub loop-i-init : goal.loop-i-init
loop-i-init c =
    let a = c.args in
    let x = c.requires.ready in
    let z = (goal.at.loop-i-init c).Start in
    let one = c.one_node-here.ensures in record {
      place = c.requires.place;
      spare = spare_start;
      down = elim c.if-from-gt0.branch [
        | then-from-gt0 t ↦ let r = standing_is x.0 (sets_long x.1) x.4 t.if-from-gt0.true in down_from (set z) a.cells.now a.from r.0 (long z) r.1 one (t.here-is ∙ t.take_downs.ensures)
        | else-from-gt0 t ↦ let o : a.from ≡ 0 = omega (arith, t.if-from-gt0.false) in rw o (down_start (set z) (long z) (t.here-is ∙ one))
      ];
    }

pub put_downs-requires : goal.put_downs-requires
put_downs-requires c =
    let l = c.loop-i in
    let s = set (goal.at.put_downs-requires c).Start in
    let size = c.args.w * (4 * c.args.p.rules + 3) in
    (c.requires.sized.rules, c.requires.sized.width, down_right s l.invariant.down, part_long (l.i * size) size l.cells (down_place s l.invariant.down))

pub slot_row-requires : goal.slot_row-requires
slot_row-requires c = slot_asks c.requires.ready.0 c.requires.ready.1 c.loop-i.i c.loop-i-test.true c.loop-i.row (search rules)

pub next_down-requires : goal.next_down-requires
next_down-requires c =
    let l = c.loop-i in
    let x = c.requires.ready in
    let s = set (goal.at.next_down-requires c).Start in
    let bytes = c.args.w * 8 in (
      c.requires.sized.width,
      slot_right s l.i (row_said x.0 x.1 l.i c.loop-i-test.true c.slot_row.ensures),
      down_right s l.invariant.down,
      down_rest s l.invariant.down,
      part_long (l.i * bytes) bytes c.args.arcs.now (byte_place s l.i c.loop-i-test.true),
      bytes_lower s l.i c.loop-i-test.true,
      l.invariant.spare,
    )

pub loop-i-preserved : goal.loop-i-preserved
loop-i-preserved c =
    let l = c.loop-i in
    let x = c.requires.ready in
    let s = set (goal.at.loop-i-preserved c).Start in
    record { place = cells_room c.requires.sized (l.i + 1) (omega arith); spare = c.next_down.ensures.spare; down = down_more s l.invariant.down c.loop-i-test.true c.put_downs.ensures (row_said x.0 x.1 l.i c.loop-i-test.true c.slot_row.ensures) c.next_down.ensures.here_after }

pub put_downs-requires-2 : goal.put_downs-requires-2
put_downs-requires-2 c =
    let l = c.loop-i in
    let s = set (goal.at.put_downs-requires-2 c).Start in
    let size = c.args.w * (4 * c.args.p.rules + 3) in
    (c.requires.sized.rules, c.requires.sized.width, down_right s l.invariant.down, part_long (c.args.p.slots * size) size l.cells (last_place s l.invariant.down.laid.long))

pub returns : goal.returns
returns c =
    let s = set (goal.at.returns c).Start in
    down_end s (down_last s c.loop-i.invariant.down c.loop-i-test.false c.put_downs-2.ensures)
