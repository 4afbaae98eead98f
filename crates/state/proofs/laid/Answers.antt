use Prim.Native.Nat.{◌+◌}
use mathlib.Core.Path.{◌≡◌, refl, ◌∙◌}
use mathlib.Core.List.{map}
use native.Mathlib.Omega.{arith}
use lib.IntN.{neg_ℤ}
use lib.ListN.{length, get_or, length-set}
use lib.Seq.{paste, paste-zero}
use mir.Syntax.{w32}
use mir.Val.{SFits}
use mir.Facts.{to_z-of_z}
use Rattle.laws.specs.Z.{z32}
use Rattle.state.specs.Pairs.{pairs}
use Rattle.state.proofs.Sizes.{mapped}
use Rattle.state.proofs.Turns.{zero_pair}
use Rattle.state.proofs.Rows.{laid_more, laid_all}
use Rattle.state.proofs.laid.Goals as goal

pub loop-k-init : goal.loop-k-init
loop-k-init c =
    let d = c.args.row.now in
    let t = pairs c.args.s in
    let first = paste-zero d c.args.at (map (λ p. p.0) t) in
    (refl, first ∙ paste-zero (paste d c.args.at (map (λ p. p.0) t) 0) (c.args.at + 8) (map (λ p. neg_ℤ p.1) t))

pub loop-k-preserved : goal.loop-k-preserved
loop-k-preserved c =
    let head = c.loop-k in
    let s = c.args.s.at in
    let m : length s ≡ 8 = search mapped in
    let p = get_or s head.k zero_pair in
    let lo : SFits w32 p.lo = search z32 in
    let hi : SFits w32 p.hi = search z32 in
    (simp length-set head.invariant.0, rw (to_z-of_z lo, to_z-of_z hi, head.invariant.1) (laid_more c.args.row.now c.args.at s m c.requires head.k c.loop-k-test.true))

pub returns : goal.returns
returns c =
    let head = c.loop-k in
    let m : length c.args.s.at ≡ 8 = search mapped in
    let e : head.k ≡ 8 = omega arith in
    rw e at head.invariant.1 ∙ laid_all c.args.row.now c.args.at c.args.s.at m c.requires
