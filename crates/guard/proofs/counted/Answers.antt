use Rattle.std.proofs.Common.{arith, sym, ◌∙◌, ◌<◌}
use Rattle.meaning.specs.Problem.{among, share_of}
use Rattle.guard.proofs.Steps.{left_more, left_end, left_counted, left_not_counted}
use Rattle.guard.proofs.counted.Goals as goal
use Rattle.guard.proofs.counted.Goals.{else-allows-via-then-allows+else-counts, else-allows-via-else-allows}

pub returns-then-counts : goal.returns-then-counts
returns-then-counts c =
    let a = c.args in
    let v = c.loop-v.v in
    sym (left_counted a.values a.slots a.i a.set v (omega arith) (sym c.allows.ensures ∙ c.if-allows.true) (sym c.counts.ensures ∙ c.if-counts.true)) ∙ c.loop-v.invariant

pub loop-v-preserved : goal.loop-v-preserved
loop-v-preserved c =
    let a = c.args in
    let v = c.loop-v.v in
    let h : v < 8 = omega arith in
    elim c.else-allows.branch [
      | else-allows-via-then-allows+else-counts w ↦ sym (left_not_counted a.values a.slots a.i a.set v h (sym c.allows.ensures ∙ w.if-allows.true) (sym w.counts.ensures ∙ w.if-counts.false)) ∙ c.loop-v.invariant
      | else-allows-via-else-allows w ↦ sym (left_more (share_of (among a.values a.slots) a.i) a.set v h (sym c.allows.ensures ∙ w.if-allows.false)) ∙ c.loop-v.invariant
    ]

pub returns : goal.returns
returns c =
    let a = c.args in
    sym (left_end (share_of (among a.values a.slots) a.i) a.set c.loop-v.v (omega arith)) ∙ c.loop-v.invariant
