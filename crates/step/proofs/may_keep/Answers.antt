use Rattle.std.proofs.Common.{◌≡◌, ◌+◌, ◌*◌, ◌<◌, ◌∙◌, refl, sym, get_or, pos, to_z, of_z, w32, rules, arith}
use Rattle.step.proofs.Steps.{keeps_at, flagged_falls, flagged_stands, flagged_ends}
use Rattle.slot.specs.Tables.{leasts_in, mosts_in}
use Rattle.slot.proofs.Laid.{part_at}
use Rattle.step.proofs.may_keep.Goals as goal
use Rattle.step.proofs.may_keep.Goals.{After-may_keep_rule, then-not-may_keep_rule+else-m-lt-RULES, else-not-may_keep_rule}

-- rule r's test, by the bounds as they stand in the table
tested : (c : After-may_keep_rule) → c.may_keep_rule.result ≡ keeps_at (leasts_in c.args.coefs.now) (mosts_in c.args.coefs.now) c.args.cells.now c.args.at c.args.totals c.loop-r.r
tested c =
    let a = c.args in
    let r = c.loop-r.r in
    let coefs = a.coefs.now in
    let below : r < 8 = omega (arith, c.requires.0) in
    let least : to_z w32 (of_z w32 (get_or coefs (216 + r) (pos 0))) ≡ get_or (leasts_in coefs) r (pos 0) = rw (part_at 8 216 coefs (pos 0) r below) (search rules) in
    let most : to_z w32 (of_z w32 (get_or coefs (224 + r) (pos 0))) ≡ get_or (mosts_in coefs) r (pos 0) = rw (part_at 8 224 coefs (pos 0) r below) (search rules) in
    let total : to_z w32 (of_z w32 (get_or a.totals r (pos 0))) ≡ get_or a.totals r (pos 0) = search rules in
    let low : to_z w32 (of_z w32 (get_or a.cells.now (a.at + 4 * r + 3) (pos 0))) ≡ get_or a.cells.now (a.at + 4 * r + 3) (pos 0) = search rules in
    let high : to_z w32 (of_z w32 (get_or a.cells.now (a.at + 4 * r + 4) (pos 0))) ≡ get_or a.cells.now (a.at + 4 * r + 4) (pos 0) = search rules in
    rw (least, most, total, low, high) at c.may_keep_rule.ensures

pub returns-then-m-lt-RULES : goal.returns-then-m-lt-RULES
returns-then-m-lt-RULES c =
    let a = c.args in
    let is = tested (goal.at.returns-then-m-lt-RULES c).After-may_keep_rule in
    (flagged_falls (keeps_at (leasts_in a.coefs.now) (mosts_in a.coefs.now) a.cells.now a.at a.totals) a.m c.loop-r.r c.loop-r.kept c.loop-r-test.true (sym is ∙ c.if-not-may_keep_rule.true) c.loop-r.invariant).0 refl

pub loop-r-preserved : goal.loop-r-preserved
loop-r-preserved c =
    let a = c.args in
    let r = c.loop-r.r in
    let is = tested (goal.at.loop-r-preserved c).After-may_keep_rule in
    let test = keeps_at (leasts_in a.coefs.now) (mosts_in a.coefs.now) a.cells.now a.at a.totals in
    elim c.if-not-may_keep_rule.branch [
      | then-not-may_keep_rule+else-m-lt-RULES w ↦ rw w.kept-is (flagged_falls test a.m r c.loop-r.kept c.loop-r-test.true (sym is ∙ w.if-not-may_keep_rule.true) c.loop-r.invariant)
      | else-not-may_keep_rule w ↦ rw w.kept-is (flagged_stands test a.m r c.loop-r.kept c.loop-r-test.true (sym is ∙ w.if-not-may_keep_rule.false) c.loop-r.invariant)
    ]

pub returns : goal.returns
returns c = flagged_ends (keeps_at (leasts_in c.args.coefs.now) (mosts_in c.args.coefs.now) c.args.cells.now c.args.at c.args.totals) c.args.m c.loop-r.r c.loop-r.kept c.loop-r-test.false c.loop-r.invariant
