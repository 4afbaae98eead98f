use Rattle.std.proofs.Common.{◌≡◌, ap, ◌∙◌, ◌++◌, ◌+◌, ◌-◌, ◌*◌, take, drop, arith}
use Rattle.std.proofs.Math.Seq.{take_all}
use Rattle.laws.specs.Z.{Within}
use Rattle.laws.proofs.Each.{each_take, each_drop}
use Rattle.lent.specs.Passes.{room_lanes}
use Rattle.rows.proofs.Laid.{part_is, part_long, place_in, laying_paste, laying_end}
use Rattle.rows.proofs.Lanes.{each_lanes}
use Rattle.rows.proofs.Free.{room_long}
use Rattle.rows.proofs.Layers.{made_next, made_none, made_all}
use Rattle.rows.proofs.rooms.Goals as goal

pub room_of-requires : goal.room_of-requires
room_of-requires c =
    let a = c.args in
    let p = c.requires in
    let k = 4 * a.m + 3 in
    let at = c.loop-j.j * k in
    let cells = a.cells.now in
    (p.0, rw c.lanes_at-most.ensures (each_lanes a.limit.now 0 p.3), part_long at k cells (omega (arith, p.4, place_in a.w k c.loop-j.j c.loop-j-test.true)), each_take (Within 4000000) (at + k - at) (drop at cells) (each_drop (Within 4000000) at cells p.5))

pub loop-j-preserved : goal.loop-j-preserved
loop-j-preserved c =
    let a = c.args in
    let l = c.loop-j in
    let t = c.loop-j-test.true in
    let k = 4 * a.m + 3 in
    let f = room_lanes a.m a.free a.limit.now in
    let cells = a.cells.now in
    let part = take k (drop (l.j * k) cells) in
    let most : c.lanes_at-most.result ≡ a.limit.now = c.lanes_at-most.ensures ∙ take_all 17 a.limit.now (omega (arith, c.requires.2)) in
    rw c.put_lanes.ensures (laying_paste l.invariant (f part) t (c.room_of.ensures ∙ (λ i. room_lanes a.m a.free (most i) (part_is (l.j * k) k cells i))) (room_long a.m a.free a.limit.now part c.requires.2) (made_next f a.w k cells l.j t))

pub returns : goal.returns
returns c =
    let a = c.args in
    let k = 4 * a.m + 3 in
    let f = room_lanes a.m a.free a.limit.now in
    let cells = a.cells.now in
    laying_end c.loop-j.invariant c.loop-j-test.false (made_none f a.w k cells) ∙ ap (λ l. l ++ drop (a.w * 17) a.room.now) (made_all f a.w k cells)
