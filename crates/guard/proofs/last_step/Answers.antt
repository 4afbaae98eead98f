use Rattle.std.proofs.Common.{arith, sym, ◌∙◌, ◌<◌, pos}
use Rattle.guard.proofs.Steps.{left_more, left_end}
use Rattle.guard.proofs.last_step.Goals as goal
use Rattle.guard.proofs.last_step.Goals.{else-allows, then-allows}

pub loop-v-preserved : goal.loop-v-preserved
loop-v-preserved c =
    let head = c.loop-v in
    let h : head.v < 8 = omega arith in
    elim c.if-allows.branch [
      | then-allows w ↦ (omega arith, omega arith, omega (arith, left_more pos c.args.set head.v h (sym c.allows.ensures ∙ w.if-allows.true), head.invariant.2))
      | else-allows w ↦ (omega arith, omega arith, omega (arith, left_more pos c.args.set head.v h (sym c.allows.ensures ∙ w.if-allows.false), head.invariant.2))
    ]

pub returns : goal.returns
returns c =
    let head = c.loop-v in
    record { is = omega (arith, left_end pos c.args.set head.v (omega arith), head.invariant.2); most = omega arith }
