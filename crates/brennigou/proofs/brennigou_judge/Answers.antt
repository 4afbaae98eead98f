-- `brennigou_judge` meets its contract: the file's number, else 11, else what the judge answers.
use Rattle.std.proofs.Common.{◌≡◌, sym, ap, ◌∙◌, arith, length, pos, [], ◌∷◌}
use Rattle.laws.specs.Z.{told}
use Rattle.laws.specs.Lists.{padded}
use Rattle.meaning.specs.Interface.{Told, flag}
use Rattle.judge.specs.Answers.{judged_as}
use Rattle.brennigou.proofs.Told.{judge_no, judge_short, judge_yes, judged_cells}
use Rattle.brennigou.proofs.brennigou_judge.Goals as goal

pub returns-in-Err-clause-value : goal.returns-in-Err-clause-value
returns-in-Err-clause-value c = c.number.ensures ∙ ap (λ (u : Told). u.number) (sym (judge_no c.args.file.now c.args.plan.now c.args.out.now c.in-Err.refusal c.in-Err.ensures))

pub returns-in-Ok-clause-value : goal.returns-in-Ok-clause-value
returns-in-Ok-clause-value c = c.number-in-Ok.ensures ∙ ap (λ (u : Told). u.number) (sym (judge_short c.args.file.now c.args.plan.now c.args.out.now c.in-Ok.field-0 c.in-Ok.ensures (omega (arith, c.if-out-lt-JUDGE_CELLS.true))))

pub returns-in-Ok-2-clause-out : goal.returns-in-Ok-2-clause-out
returns-in-Ok-2-clause-out c =
    let a = c.in-Ok.field-0 in
    let n = length c.args.out.now in
    let lawful : c.flag.result ≡ flag (judged_as a).lawful = c.flag.ensures ∙ ap flag c.is_some.ensures ∙ (judged_cells a).0 in
    let cost : c.unwrap_or.result ≡ (judged_as a).cost = c.unwrap_or.ensures ∙ (judged_cells a).1 in
    let f = told c.flag.result c.flag.type_inv ∙ lawful in
    let z = told c.unwrap_or.result c.unwrap_or.type_inv ∙ cost in
    c.tell.ensures ∙ (λ i. padded n (pos 0) (f i ∷ z i ∷ [])) ∙ ap (λ (u : Told). u.out) (sym (judge_yes c.args.file.now c.args.plan.now c.args.out.now a c.in-Ok.ensures (omega (arith, c.if-out-lt-JUDGE_CELLS.false))))
