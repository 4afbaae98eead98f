use mathlib.Core.Path.{◌≡◌, sym, ap, ◌∙◌}
use Prim.Native.Nat.{ℕ}
use native.Mathlib.Nat.{zero-add}
use native.Mathlib.Omega.{arith}
use lib.ListN.{length, get_or}
use lib.IntN.{pos}
use Rattle.laws.specs.Z.{Within, back_is, back_within}
use Rattle.laws.proofs.Each.{each_at}
use Rattle.problem.proofs.Arrays.{long}
use Rattle.slot.specs.Rows.{lane_of, lanes_of}
use Rattle.slot.proofs.Laws.{lanes_long, lanes_at}
use Rattle.slot.proofs.Laid.{copied_start, copied_long, copied_more, copied_end, all_pasted}
use Rattle.slot.proofs.step_shares.Goals as goal
use Rattle.slot.proofs.step_shares.Goals.{Start}

-- eight shares
module _ (s : Start) where
  coefs_eight : length s.args.parts.coefs ≡ 8
  coefs_eight = search long

  values_eight : length s.args.parts.values ≡ 8
  values_eight = search long

  shares_eight : length (lanes_of s.args.parts.coefs s.args.parts.values s.args.v) ≡ 8
  shares_eight = lanes_long s.args.parts.coefs s.args.parts.values s.args.v (coefs_eight ∙ sym values_eight) ∙ coefs_eight

pub loop-r-init : goal.loop-r-init
loop-r-init c = (c.requires.2, copied_start (omega (arith, shares_eight c, c.requires.2)))

-- a coefficient is in range
coef_within : (s : Start) (r : ℕ) → Within 1000 (get_or s.args.parts.coefs r (pos 0))
coef_within s r = each_at (Within 1000) s.args.parts.coefs r (pos 0) (record { size = omega arith }) s.requires.1

pub lane-requires : goal.lane-requires
lane-requires c =
    let s = (goal.at.lane-requires c).Start in
    (c.requires.0, back_within (coef_within s c.loop-r.r) tt)

pub loop-r-preserved : goal.loop-r-preserved
loop-r-preserved c =
    let s = (goal.at.loop-r-preserved c).Start in
    let l = c.loop-r in
    let p = c.args.parts in
    let is =
    back_is c.lane.ensures.1 tt
    ∙ c.lane.ensures.0
    ∙ ap (λ z. lane_of z (get_or p.values l.r 0) c.args.v) (back_is (coef_within s l.r) tt)
    ∙ sym (lanes_at p.coefs p.values c.args.v l.r (omega (arith, coefs_eight s)) (coefs_eight s ∙ sym (values_eight s))) in
    let next = rw (zero-add l.r) at (copied_more l.invariant.1 (pos 0) (omega (arith, shares_eight s)) is) in
    (copied_long next ∙ c.requires.2, next)

pub shape_of-row : goal.shape_of-row
shape_of-row c = copied_long c.loop-r.invariant.1

pub returns : goal.returns
returns c =
    let s = (goal.at.returns c).Start in
    let p = c.args.parts in
    copied_end c.loop-r.invariant.1 (omega (arith, shares_eight s)) ∙ all_pasted c.args.row.now (lanes_of p.coefs p.values c.args.v) (shares_eight s ∙ sym c.requires.2)
