use mathlib.Core.Path.{refl, sym, ap}
use Prim.Native.Nat.{◌+◌, ◌<◌}
use native.Mathlib.Omega.{arith}
use lib.ListN.{replicate, get_or-replicate}
use lib.IntN.{pos, neg_ℤ}
use Rattle.laws.specs.Z.{back_is}
use Rattle.lanes.proofs.Laws.{lane_within}
use Rattle.rows.proofs.Lanes.{far_no}
use Rattle.rows.proofs.Cells.{turned, stored_start, stored_more, stored_end}
use Rattle.rows.proofs.rules_down.Goals as goal

pub loop-r-init : goal.loop-r-init
loop-r-init c = let a = c.args in stored_start a.m a.down.now (replicate 17 (pos 0)) a.cells.now c.requires.3

pub loop-r-preserved : goal.loop-r-preserved
loop-r-preserved c =
    let d = c.args.down.now in
    let r = c.loop-r.r in
    let h : r + 8 < 17 = omega (arith, c.requires.0, c.loop-r-test.true) in
    stored_more c.loop-r.invariant c.loop-r-test.true (back_is (lane_within d r c.requires.2) tt) (turned (lane_within d (8 + r) c.requires.2) tt) (sym (get_or-replicate 17 r (pos 0) (pos 0) (omega arith)))
    (sym (ap neg_ℤ (get_or-replicate 17 (8 + r) (pos 0) (pos 0) (omega arith))))

pub returns : goal.returns
returns c =
    let d = c.args.down.now in
    stored_end c.loop-r.invariant c.loop-r-test.false (far_no d c.if-down-eq-FAR.false) refl (back_is (lane_within d 16 c.requires.2) tt) refl
