-- Its low is the lesser, and so is its turned high.
use mathlib.Core.Path.{◌∙◌}
use mir.Syntax.{w32}
use mir.Val.{SFits}
use Rattle.laws.specs.Z.{z32, back}
use Rattle.state.proofs.Turns.{least_is, merged_back}
use Rattle.state.proofs.merged_pair.Goals as goal

pub returns : goal.returns
returns c =
    let l = c.min in
    let h = c.min-2 in
    let a = c.args in
    let pl : SFits w32 a.p.lo = search z32 in
    let ph : SFits w32 a.p.hi = search z32 in
    let ql : SFits w32 a.q.lo = search z32 in
    let qh : SFits w32 a.q.hi = search z32 in
    merged_back a.p a.q pl ph ql qh l.result h.result l.type_inv h.type_inv (l.ensures.value ∙ least_is (back a.p.lo) (back a.q.lo)) (h.ensures.value ∙ least_is (back a.p.hi) (back a.q.hi))
