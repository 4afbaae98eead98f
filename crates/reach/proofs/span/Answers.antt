use mathlib.Core.Path.{sym, ap, ◌∙◌}
use Rattle.lent.specs.Lanes.{leasts}
use Rattle.reach.proofs.Spans.{span_yes, span_no}
use Rattle.reach.proofs.span.Goals as goal
use Rattle.reach.proofs.span.Goals.{else-allows, then-allows}

pub loop-v-preserved : goal.loop-v-preserved
loop-v-preserved c =
    let l = c.loop-v in
    let allowed = c.allows.ensures in
    elim c.if-allows.branch [
      | then-allows w ↦ span_yes l.invariant c.loop-v-test.true (sym allowed ∙ w.if-allows.true) c.if-allows.least (w.least-is ∙ w.least_of-lower.ensures ∙ ap (leasts l.least) w.step_lanes.ensures)
      | else-allows w ↦ span_no l.invariant c.loop-v-test.true (sym allowed ∙ w.if-allows.false) c.if-allows.least w.least-is
    ]
