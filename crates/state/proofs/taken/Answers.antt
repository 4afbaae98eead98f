use Prim.Native.Nat.{◌+◌}
use mathlib.Core.Path.{refl, ◌∙◌}
use native.Mathlib.Omega.{arith}
use borrow.Author.Rules.{rules}
use lib.IntN.{pos}
use lib.ListN.{get_or, replicate}
use mir.Syntax.{w32}
use mir.Val.{SFits}
use mir.Facts.{to_z-of_z}
use Rattle.state.specs.Pairs.{pairs_at}
use Rattle.state.proofs.Joined.{no_pair}
use Rattle.state.proofs.Turns.{filled_all}
use Rattle.state.proofs.Rows.{pairs_length, taken_more}
use Rattle.state.proofs.taken.Goals as goal

pub loop-k-preserved : goal.loop-k-preserved
loop-k-preserved c =
    let head = c.loop-k in
    let row = c.args.row.now in
    let lo : SFits w32 (get_or row (c.args.at + head.k) (pos 0)) = search rules in
    let hi : SFits w32 (get_or row (c.args.at + 8 + head.k) (pos 0)) = search rules in
    rw (to_z-of_z lo, to_z-of_z hi) (taken_more row c.args.at c.requires head.k c.loop-k-test.true head.s.at (replicate 8 no_pair) refl head.invariant)

pub returns : goal.returns
returns c =
    let head = c.loop-k in
    head.invariant ∙ filled_all head.k (pairs_at c.args.row.now c.args.at) (replicate 8 no_pair) (omega (arith, pairs_length c.args.row.now c.args.at c.requires)) c.loop-k-test.false
