-- `brennigou_restricted` meets its contract: what is told is what `restricted` does on the parts that are lent, the rest as it was.
use Rattle.diagram.specs.Answers.{lent_of}
use Rattle.brennigou.proofs.Lent.{bound_told_lem, restricted_told_lem}
use Rattle.brennigou.proofs.brennigou_restricted.Goals as goal

pub returns : goal.returns
returns c =
    let a = c.args in
    let l = lent_of a.arcs.now a.cells.now a.plan.now in
    let x = c.lendable-bytes in
    let y = c.lendable-numbers in
    let d = c.restricted-answer in
    let r =
    bound_told_lem a.out.now l x.result y.result x.ensures.0 y.ensures.0
    (restricted_told_lem a.out.now l x.result y.result x.ensures.0 y.ensures.0 a.file.now a.width)
    d.ensures.answer d.ensures.arcs d.ensures.cells d.ensures.plan c.tell_bound.ensures.number c.tell_bound.ensures.out in
    record { value = r.0; arcs = r.1; cells = r.2; plan = r.3; out = r.4 }
