use mathlib.Core.Bool.{true, false}
use mathlib.Core.Path.{◌≡◌, refl, ap, ◌∙◌}
use Prim.Native.Nat.{ℕ, ◌-◌, ◌+◌, ◌*◌}
use native.Mathlib.Omega.{arith}
use lib.ListN.{length}
use lib.IntN.{ℤ}
use mir.Syntax.{w32}
use mir.Val.{to_z, of_z}
use mir.Facts.{to_z-of_z}
use Rattle.laws.specs.Z.{Within, back_within}
use Rattle.laws.proofs.Each.{each_take}
use Rattle.meaning.specs.Filter.{drops}
use Rattle.meaning.specs.Buffers.{arcs_in}
use Rattle.problem.specs.Held.{campaign_of}
use Rattle.lent.specs.Wide.{laid}
use Rattle.lent.specs.Vec.{test_of}
use Rattle.lent.proofs.Vec.{length_limit, limit_within}
use Rattle.rows.proofs.Laid.{part_long, put}
use Rattle.rows.proofs.Lanes.{wide}
use Rattle.std.proofs.Common.{rules}
use Rattle.numbers.proofs.Limit.{limit_said, bounding}
use Rattle.numbers.proofs.Passes.{Setting, Up, cells_room, sets_long, setting, slot_asks, row_said, up_at, slot_right, last_room, last_right, last_half, up_start, up_here, up_byte_place, up_place, up_right, up_low, up_half, up_still, up_falls, up_end, up_cells_lem, up_fell}
use Rattle.numbers.proofs.ups.Goals as goal
use Rattle.numbers.proofs.ups.Goals.{Start, After-next_up}

-- where the pass runs
set : (c : Start) → Setting (campaign_of c.args.p) c.args.w c.args.p.slots c.args.p.rules c.args.arcs.now (arcs_in (campaign_of c.args.p) c.args.w c.args.arcs.now)
set c = let x = c.requires.ready in setting x.0 x.3 (sets_long x.1)

pub limit_of-limit-requires : goal.limit_of-limit-requires
limit_of-limit-requires c = (bounding c.args.p c.requires.ready.1 c.requires.ready.0.right, c.requires.ready.1.long)

pub put_ups-requires : goal.put_ups-requires
put_ups-requires c =
    let s = set (goal.at.put_ups-requires c).Start in
    let row = last_right s c.one_node-next.ensures in (
      c.requires.sized.rules,
      c.requires.sized.width,
      row.long,
      each_take (Within 10000000) (c.args.w * 17) c.one_node-next.result (wide c.one_node-next.result row.inside),
      last_half s c.requires.ready.4,
    )

pub loop-i-init : goal.loop-i-init
loop-i-init c =
    let p = c.args.p in
    let x = c.requires.ready in
    let size = c.args.w * (4 * p.rules + 3) in
    let s = set (goal.at.loop-i-init c).Start in
    let r = c.put_ups in
    record { place = cells_room c.requires.sized (p.slots - 1) (omega arith); up = up_start s x.4 (test_of c.args.free (to_z w32 (of_z w32 c.args.ceiling))) c.args.free refl c.one_node-next.ensures r.ensures (r.auto.cells ∙ part_long (p.slots * size) size c.args.cells.now (last_room s x.4)) }

pub slot_row-requires : goal.slot_row-requires
slot_row-requires c =
    let l = c.loop-i in
    slot_asks c.requires.ready.0 c.requires.ready.1 (l.i - 1) (omega arith) l.row (search rules)

pub next_up-requires : goal.next_up-requires
next_up-requires c =
    let l = c.loop-i in
    let p = c.args.p in
    let x = c.requires.ready in
    let s = set (goal.at.next_up-requires c).Start in
    let u = up_at l.invariant.up c.loop-i-test.true in
    let z = to_z w32 (of_z w32 c.args.ceiling) in
    let limit = c.limit_of-limit.ensures ∙ limit_said p x.1 z in
    let bytes = c.args.w * 8 in (
      c.requires.sized.rules,
      c.requires.sized.width,
      slot_right s (l.i - 1) (row_said x.0 x.1 (l.i - 1) (up_here s x.4 u) c.slot_row.ensures),
      up_right s x.4 u,
      ap length limit ∙ length_limit z (campaign_of p),
      rw limit (limit_within (campaign_of p) s.small (back_within x.2 tt)),
      part_long ((l.i - 1) * bytes) bytes l.arcs (up_byte_place s x.4 u),
      up_low s x.4 u,
      up_half s x.4 u,
      search rules,
      search rules,
    )

-- what the layer's numbers leave, if `first` is the first layer that lost an arc
module _ (c : After-next_up) where
  abbrev start : Start
  start = (goal.at.After-next_up c).Start

  abbrev i : ℕ
  i = c.loop-i.i - 1

  abbrev bytes : ℕ
  bytes = c.args.w * 8

  abbrev size : ℕ
  size = c.args.w * (4 * c.args.p.rules + 3)

  abbrev z : ℤ
  z = to_z w32 (of_z w32 c.args.ceiling)

  abbrev After : ℕ → Type 0
  After first =
      let a = c.args in
      let l = c.loop-i in
      let n = c.next_up.new in
      Up (campaign_of a.p) a.w a.p.slots a.p.rules (arcs_in (campaign_of a.p) a.w a.arcs.now) (test_of a.free z) a.arcs.now a.cells.now a.free (put l.arcs (i * bytes) bytes n.arcs) (put l.cells (i * size) size n.cells) n.next first i

  both : (c.next_up.result ≡ false → After c.loop-i.first) × (c.next_up.result ≡ true → After i)
  both =
      let l = c.loop-i in
      let x = c.requires.ready in
      let s = set start in
      let u = up_at l.invariant.up c.loop-i-test.true in
      let said = row_said x.0 x.1 i (up_here s x.4 u) c.slot_row.ensures in
      let limit = c.limit_of-limit.ensures ∙ limit_said c.args.p x.1 z in
      let r = c.next_up in
      let lb = r.auto.arcs ∙ part_long (i * bytes) bytes l.arcs (up_byte_place s x.4 u) in
      let ly = r.auto.cells ∙ part_long (i * size) size l.cells (up_place s x.4 u) in (
        up_still s x.4 u z refl said limit r.ensures.next r.ensures.arcs lb r.ensures.cells ly r.ensures.fell,
        up_falls s x.4 u z refl said limit r.ensures.next r.ensures.arcs lb r.ensures.cells ly r.ensures.fell,
      )

pub loop-i-preserved-then-next_up : goal.loop-i-preserved-then-next_up
loop-i-preserved-then-next_up c = record { place = cells_room c.requires.sized (c.loop-i.i - 1 - 1) (omega arith); up = (both (goal.at.loop-i-preserved-then-next_up c).After-next_up).1 c.if-next_up.true }

pub loop-i-preserved : goal.loop-i-preserved
loop-i-preserved c = record { place = cells_room c.requires.sized (c.loop-i.i - 1 - 1) (omega arith); up = (both (goal.at.loop-i-preserved c).After-next_up).0 c.if-next_up.false }

pub returns : goal.returns
returns c =
    let q = campaign_of c.args.p in
    let w = c.args.w in
    let x = c.requires.ready in
    let s = set (goal.at.returns c).Start in
    let u = c.loop-i.invariant.up in
    let h = c.loop-i-test.false in
    record {
      arcs = up_end s x.4 u h ∙ ap (λ z. laid 8 w (drops (test_of c.args.free z) q (arcs_in q w c.args.arcs.now))) (to_z-of_z c.ranges.ceiling);
      cells = up_cells_lem s x.4 u h;
      first = up_fell s x.4 u h;
    }
