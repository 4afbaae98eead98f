use mathlib.Core.Path.{◌∙◌, sym}
use Prim.Native.Nat.{◌+◌, ◌*◌}
use borrow.Author.Rules.{rules}
use Rattle.laws.specs.Z.{back_is, sum_within}
use Rattle.lanes.proofs.Laws.{halved_more, halved_end, lane_within, turned_within, along_start, along_low, along_high, along_cost}
use Rattle.lanes.proofs.along.Goals as goal

pub loop-k-init : goal.loop-k-init
loop-k-init c = along_start c.args.row.now c.args.v c.requires.1 c.requires.3 c.args.x (search rules)

pub loop-k-preserved : goal.loop-k-preserved
loop-k-preserved c =
    let row = c.args.row.now in
    let l = c.loop-k in
    let h = c.loop-k-test.true in
    let share = lane_within row (c.args.v * 8 + l.k) c.requires.2 in
    let low = lane_within c.args.x l.k c.requires.0 in
    let high = lane_within c.args.x (8 + l.k) c.requires.0 in
    halved_more l.invariant h
    (rw (back_is low tt, back_is share tt) (back_is (sum_within low share) tt) ∙ sym (along_low row c.args.v c.requires.1 c.requires.3 c.args.x (search rules) l.k h))
    (rw (back_is high tt, back_is share tt) (back_is (sum_within high (turned_within share)) tt) ∙ sym (along_high row c.args.v c.requires.1 c.requires.3 c.args.x (search rules) l.k h))

pub returns : goal.returns
returns c =
    let row = c.args.row.now in
    let cost = lane_within c.args.x 16 c.requires.0 in
    let price = lane_within row (64 + c.args.v) c.requires.2 in
    halved_end c.loop-k.invariant c.loop-k-test.false
    (rw (back_is cost tt, back_is price tt) (back_is (sum_within cost price) tt) ∙ sym (along_cost row c.args.v c.requires.1 c.requires.3 c.args.x (search rules)))
