-- `brennigou_relaxed` meets its contract: what is told is what `relaxed` does on the parts that are lent, the rest as it was.
use mathlib.Core.Path.{refl, sym, ap, ◌∙◌}
use mathlib.Core.List.{[]}
use lib.ListN.{drop}
use lib.IntN.{ℤ}
use mir.Facts.{to_z-of_z}
use Rattle.meaning.specs.Calls.{relaxed_call}
use Rattle.diagram.specs.Answers.{lent_of}
use Rattle.brennigou.proofs.Lent.{part, bound_tells, bound_told_lem, relaxed_told_lem}
use Rattle.brennigou.proofs.brennigou_relaxed.Goals as goal

pub returns : goal.returns
returns c =
    let a = c.args in
    let l = lent_of a.arcs.now a.cells.now [] in
    let x = c.lendable-bytes in
    let y = c.lendable-numbers in
    let d = c.relaxed-answer in
    let tells = bound_tells a.out.now (drop x.result l.arcs) (drop y.result l.cells) in
    let e =
    relaxed_told_lem a.out.now l x.result y.result x.ensures.0 y.ensures.0 a.file.now a.width a.rounds a.ceiling
    ∙ ap (λ (z : ℤ). tells (relaxed_call a.file.now a.width a.rounds z (part l x.result y.result))) (sym (to_z-of_z c.ranges.ceiling)) in
    let r = bound_told_lem a.out.now l x.result y.result x.ensures.0 y.ensures.0 e d.ensures.answer d.ensures.arcs d.ensures.cells refl c.tell_bound.ensures.number c.tell_bound.ensures.out in
    record { value = r.0; arcs = r.1; cells = r.2; out = r.4 }
