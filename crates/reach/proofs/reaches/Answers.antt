use mathlib.Core.Path.{◌∙◌}
use native.Mathlib.Omega.{arith}
use Rattle.meaning.specs.Problem.{version1}
use Rattle.problem.proofs.Faultless.{Right, right}
use Rattle.lent.specs.Lanes.{sums}
use Rattle.reach.proofs.Turn.{behind_first, here_coefs, here_small, rest_small, behind_next, behind_end}
use Rattle.reach.proofs.reaches.Goals as goal
use Rattle.reach.proofs.reaches.Goals.{Start}

-- the problem has no fault
faultless : (s : Start) → Right version1 s.args.p
faultless s = right version1 s.args.p s.requires.0

pub loop-i-init : goal.loop-i-init
loop-i-init c = behind_first c.args.p (faultless (goal.at.loop-i-init c).Start) c.requires.1 _ c.requires.2 c.put_lanes.ensures

pub span-here-requires : goal.span-here-requires
span-here-requires c = rw c.parts_at.ensures.coefs (here_coefs c.args.p (faultless (goal.at.span-here-requires c).Start) c.requires.1 (omega arith) c.loop-i.auto.i)

pub sum_of-requires : goal.sum_of-requires
sum_of-requires c =
    let r = faultless (goal.at.sum_of-requires c).Start in
    let here = rw (c.parts_at.ensures.coefs, c.parts_at.ensures.values) at c.span-here.ensures in (
      rw here (here_small c.args.p r c.requires.1 (omega arith) c.loop-i.auto.i),
      rw c.lanes_at-rest.ensures (rest_small c.args.p r c.requires.1 (omega arith) c.loop-i.auto.i c.loop-i.invariant),
    )

pub loop-i-preserved : goal.loop-i-preserved
loop-i-preserved c =
    let r = faultless (goal.at.loop-i-preserved c).Start in
    let here = rw (c.parts_at.ensures.coefs, c.parts_at.ensures.values) at c.span-here.ensures in
    behind_next c.args.p r c.requires.1 (omega arith) c.loop-i.auto.i c.loop-i.invariant (c.sum_of.ensures ∙ (λ d. sums (here d) (c.lanes_at-rest.ensures d))) c.put_lanes-in-loop-i.ensures

pub returns : goal.returns
returns c = behind_end c.args.p (faultless (goal.at.returns c).Start) c.requires.1 c.loop-i.invariant (omega arith)
