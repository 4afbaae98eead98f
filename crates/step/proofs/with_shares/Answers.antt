use mathlib.Core.Path.{◌≡◌, sym, ap, ◌∙◌}
use Prim.Native.Nat.{ℕ, ◌+◌, ◌*◌, ◌<◌}
use native.Mathlib.Omega.{arith}
use lib.ListN.{get_or}
use lib.Seq.{get_or-take}
use lib.IntN.{pos, ◌+ℤ◌}
use Rattle.laws.specs.Z.{Within, sum_within, back_is, back_within}
use Rattle.laws.proofs.Each.{each_at}
use Rattle.slot.specs.Rows.{lane_of}
use Rattle.slot.specs.Tables.{coefs_in}
use Rattle.step.specs.Steps.{totals_at, here_at}
use Rattle.slot.proofs.Laid.{table_more, table_all, part_at}
use Rattle.step.proofs.Steps.{both_fits, both_is, here_long, here_at_lem}
use Rattle.step.proofs.with_shares.Goals as goal
use Rattle.step.proofs.with_shares.Goals.{Start}

-- what is added, in range
module _ (s : Start) (r : ℕ) (h : r < 8) where
  coef_within : Within 1000 (get_or s.args.coefs.now (s.args.i * 8 + r) (pos 0))
  coef_within =
      let k = s.args.i * 8 + r in
      let cs = s.args.coefs.now in
      rw (get_or-take 192 cs k (pos 0) (omega (arith, s.requires.0))) at (each_at (Within 1000) (coefs_in cs) k (pos 0) (record { size = omega arith }) s.requires.2)

  total_within : Within 1000000 (get_or s.args.trail.now (s.args.i * 9 + r) (pos 0))
  total_within =
      let i = s.args.i in
      let trail = s.args.trail.now in
      rw (part_at 8 (i * 9) trail (pos 0) r h) at (each_at (Within 1000000) (totals_at i trail) r (pos 0) (record { size = omega arith }) s.requires.3)

pub lane-share-requires : goal.lane-share-requires
lane-share-requires c =
    let s = (goal.at.lane-share-requires c).Start in
    let r = c.loop-r.r in
    (c.requires.1, back_within (coef_within s r c.loop-r-test.true) tt)

pub overflow_add-totals-in-loop-r : goal.overflow_add-totals-in-loop-r
overflow_add-totals-in-loop-r c =
    let t = total_within (goal.at.overflow_add-totals-in-loop-r c).Start c.loop-r.r c.loop-r-test.true in
    let l = c.lane-share.ensures.1 in
    both_fits ◌+ℤ◌ t l (sum_within t l) tt tt tt

pub loop-r-preserved : goal.loop-r-preserved
loop-r-preserved c =
    let s = (goal.at.loop-r-preserved c).Start in
    let r = c.loop-r.r in
    let below = c.loop-r-test.true in
    let a = c.args in
    let cs = a.coefs.now in
    let bs = a.values.now in
    let ts = a.trail.now in
    let share = c.lane-share.ensures in
    let lane : c.lane-share.result ≡ lane_of (get_or cs (a.i * 8 + r) (pos 0)) (get_or bs (a.i * 8 + r) 0) a.v = share.0 ∙ ap (λ z. lane_of z (get_or bs (a.i * 8 + r) 0) a.v) (back_is (coef_within s r below) tt) in
    let t = total_within s r below in
    let is =
    both_is ◌+ℤ◌ t share.1 (sum_within t share.1) tt tt tt
    ∙ ap (λ z. get_or ts (a.i * 9 + r) (pos 0) +ℤ z) lane
    ∙ sym (here_at_lem cs bs a.i a.v ts c.requires.0 c.requires.4 c.requires.5 c.requires.6 r below) in
    let long = here_long cs bs a.i a.v ts c.requires.0 c.requires.4 c.requires.5 c.requires.6 in
    rw c.loop-r.invariant (table_more 8 (pos 0) (here_at cs bs a.i a.v ts) r (omega arith) (omega arith) is)

pub returns : goal.returns
returns c =
    let a = c.args in
    let cs = a.coefs.now in
    let bs = a.values.now in
    let ts = a.trail.now in
    c.loop-r.invariant ∙ table_all 8 (pos 0) (here_at cs bs a.i a.v ts) c.loop-r.r (here_long cs bs a.i a.v ts c.requires.0 c.requires.4 c.requires.5 c.requires.6) c.loop-r-test.false
