use mathlib.Core.Path.{◌≡◌, ap, ◌∙◌}
use native.Mathlib.Omega.{arith}
use lib.ListN.{length, get_or}
use lib.IntN.{pos}
use Rattle.std.proofs.lemmas.List.{get_or_default}
use Rattle.laws.specs.Z.{back, told}
use Rattle.problem.proofs.Arrays.{long}
use Rattle.problem.specs.declared.Terms.TheVariants.{Neither}
use Rattle.slot.specs.Rows.{coef_part, value_part}
use Rattle.slot.proofs.Laws.{entry_laid}
use Rattle.slot.proofs.parts_of.Goals as goal

pub loop-r-preserved : goal.loop-r-preserved
loop-r-preserved c =
    let l = c.loop-r in
    let a = c.args in
    let terms = a.problem.now.terms in
    let eight : length terms ≡ 8 = search long in
    let read = get_or_default terms l.r _ Neither (omega (arith, c.requires.0)) in
    let coef : back c.coef_part.result ≡ coef_part a.i (get_or terms l.r Neither) = told c.coef_part.result c.coef_part.type_inv ∙ c.coef_part.ensures ∙ ap (coef_part a.i) read in
    let value : c.value_part.result ≡ value_part a.i (get_or terms l.r Neither) = c.value_part.ensures ∙ ap (value_part a.i) read in record {
      coefs = rw (l.invariant.coefs, coef) (entry_laid (pos 0) 8 (λ r. coef_part a.i (get_or terms r Neither)) l.r (omega arith));
      values = rw (l.invariant.values, value) (entry_laid 0 8 (λ r. value_part a.i (get_or terms r Neither)) l.r (omega arith));
    }
