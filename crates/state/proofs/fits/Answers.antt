use mathlib.Core.Path.{◌≡◌, sym, ◌∙◌}
use mathlib.Core.Bool.{true, false, ◌&&◌}
use lib.Signed.{le_z}
use lib.ListN.{length, get_or}
use mir.Syntax.{w32}
use mir.Val.{SFits}
use Rattle.laws.specs.Z.{z32, flag<}
use Rattle.lent.proofs.Lanes.{neg_le}
use Rattle.state.specs.Pairs.{pairs}
use Rattle.state.proofs.Joined.{joined, fit_low, fit_high, all, all_both, fit_joined}
use Rattle.state.proofs.Sizes.{mapped}
use Rattle.state.proofs.Turns.{zero_pair, test_more, test_all, test_none, above, below}
use Rattle.state.proofs.fits.Goals as goal
use Rattle.state.proofs.fits.Goals.{else-limit-k, else-limit-k-2, then-limit-k, then-limit-k-2}

pub loop-k-preserved : goal.loop-k-preserved
loop-k-preserved c =
    let a = c.args in
    let head = c.loop-k in
    let m : length a.s.at ≡ 8 = search mapped in
    let n : length a.limit.at ≡ 8 = search mapped in
    let p = get_or a.s.at head.k zero_pair in
    let q = get_or a.limit.at head.k zero_pair in
    let pf : SFits w32 p.lo = search z32 in
    let qf : SFits w32 q.lo = search z32 in
    let ok = c.if-limit-k.ok in
    let flag : ok ≡ (head.ok && le_z p.lo q.lo) = elim c.if-limit-k.branch [
      | then-limit-k w ↦ above head.ok ok p.lo q.lo w.ok-is (flag< true qf pf w.if-limit-k.true)
      | else-limit-k w ↦ below head.ok ok p.lo q.lo w.ok-is (flag< false qf pf w.if-limit-k.false)
    ] in
    test_more fit_low true a.s.at a.limit.at m n head.k head.ok ok c.loop-k-test.true head.invariant flag

pub loop-k-2-init : goal.loop-k-2-init
loop-k-2-init c =
    let a = c.args in
    let head = c.loop-k in
    let m : length a.s.at ≡ 8 = search mapped in
    let n : length a.limit.at ≡ 8 = search mapped in
    let lows = test_all fit_low true a.s.at a.limit.at m n head.k head.ok c.loop-k-test.false head.invariant in
    test_none fit_high (all (joined fit_low (pairs a.s) (pairs a.limit))) a.s.at a.limit.at head.ok lows

pub loop-k-2-preserved : goal.loop-k-2-preserved
loop-k-2-preserved c =
    let a = c.args in
    let head = c.loop-k-2 in
    let m : length a.s.at ≡ 8 = search mapped in
    let n : length a.limit.at ≡ 8 = search mapped in
    let p = get_or a.s.at head.k zero_pair in
    let q = get_or a.limit.at head.k zero_pair in
    let pf : SFits w32 p.hi = search z32 in
    let qf : SFits w32 q.hi = search z32 in
    let ok = c.if-limit-k-2.ok in
    let flag : ok ≡ (head.ok && le_z p.hi q.hi) = elim c.if-limit-k-2.branch [
      | then-limit-k-2 w ↦ above head.ok ok p.hi q.hi w.ok-is (flag< true qf pf w.if-limit-k-2.true)
      | else-limit-k-2 w ↦ below head.ok ok p.hi q.hi w.ok-is (flag< false qf pf w.if-limit-k-2.false)
    ] in
    test_more fit_high (all (joined fit_low (pairs a.s) (pairs a.limit))) a.s.at a.limit.at m n head.k head.ok ok c.loop-k-2-test.true head.invariant (rw (neg_le q.hi p.hi) flag)

pub returns : goal.returns
returns c =
    let a = c.args in
    let head = c.loop-k-2 in
    let m : length a.s.at ≡ 8 = search mapped in
    let n : length a.limit.at ≡ 8 = search mapped in
    test_all fit_high (all (joined fit_low (pairs a.s) (pairs a.limit))) a.s.at a.limit.at m n head.k head.ok c.loop-k-2-test.false head.invariant
    ∙ all_both fit_low fit_high (pairs a.s) (pairs a.limit)
    ∙ sym (fit_joined (pairs a.s) (pairs a.limit))
