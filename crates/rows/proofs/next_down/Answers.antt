-- `next_down` meets its contract: the row is cleared, numbers are brought, the row is copied.
use Rattle.std.proofs.Common.{◌≡◌, refl, ap, ◌∙◌, ◌++◌, ◌*◌, drop, replicate, pos, arith}
use Rattle.std.proofs.Math.Seq.{length-take-le}
use Rattle.laws.specs.Lists.{parted}
use Rattle.lent.specs.Passes.{bring_layer}
use Rattle.rows.proofs.Front.{spare_blank, blank_spare, next_row}
use Rattle.rows.proofs.next_down.Goals as goal

pub returns : goal.returns
returns c =
    let a = c.args in
    let p = c.requires in
    let row = a.row.now in
    let here = a.here.now in
    let arcs = a.arcs.now in
    let rest = drop (a.w * 17) a.spare.now in
    let cleared : c.fill.new.self ≡ replicate (a.w * 17) (pos 4000000) = c.fill.ensures.after (λ y e. e) ∙ ap (λ n. replicate n (pos 4000000)) (length-take-le (a.w * 17) a.spare.now (omega (arith, p.0, p.6.long))) in
    let brought = c.layer_down.ensures ∙ ap (λ l. bring_layer row here 0 (parted a.w 8 arcs) (l ++ rest)) cleared in record {
      here_after = next_row row here p.1 p.2 a.w p.0 arcs p.4 p.5 rest brought (ap (λ l. l ++ drop (a.w * 17) here) c.copy.ensures) p.3;
      spare = blank_spare row here p.1 p.2 a.w p.0 arcs p.4 p.5 rest (spare_blank a.w p.0 p.6 refl) brought;
    }
