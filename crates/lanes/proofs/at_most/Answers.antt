use mathlib.Core.Path.{sym}
use mathlib.Core.Bool.{true, false}
use native.Mathlib.Omega.{arith}
use borrow.Author.Rules.{rules}
use lib.ListN.{get_or}
use lib.IntN.{pos}
use mir.Syntax.{w32}
use mir.Val.{SFits}
use Rattle.laws.specs.Z.{flag<}
use Rattle.lanes.proofs.Laws.{one_above, asked_above, asked_within, asked_all}
use Rattle.lanes.proofs.at_most.Goals as goal
use Rattle.lanes.proofs.at_most.Goals.{else-limit-k, then-limit-k}

pub returns-then-limit-x : goal.returns-then-limit-x
returns-then-limit-x c =
    let a = c.args in
    let x : SFits w32 (get_or a.x 16 (pos 0)) = search rules in
    let y : SFits w32 (get_or a.limit 16 (pos 0)) = search rules in
    sym (one_above a.x a.limit 16 (search rules) (search rules) (flag< true y x c.if-limit-x.true))

pub loop-k-preserved : goal.loop-k-preserved
loop-k-preserved c =
    let a = c.args in
    let l = c.loop-k in
    let x : SFits w32 (get_or a.x l.k (pos 0)) = search rules in
    let y : SFits w32 (get_or a.limit l.k (pos 0)) = search rules in
    elim c.if-limit-k.branch [
      | then-limit-k w ↦ rw w.ok-is (asked_above l.invariant (omega arith) (flag< true y x w.if-limit-k.true))
      | else-limit-k w ↦ rw w.ok-is (asked_within l.invariant (omega arith) (flag< false y x w.if-limit-k.false))
    ]

pub returns : goal.returns
returns c =
    let a = c.args in
    let x : SFits w32 (get_or a.x 16 (pos 0)) = search rules in
    let y : SFits w32 (get_or a.limit 16 (pos 0)) = search rules in
    asked_all c.loop-k.invariant (omega arith) (flag< false y x c.if-limit-x.false)
