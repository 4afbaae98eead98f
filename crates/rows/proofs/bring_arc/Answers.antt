use Rattle.std.proofs.Common.{◌≡◌, ◌∙◌, ◌+◌, ◌+ℤ◌, get_or, set, pos, arith}
use Rattle.laws.specs.Z.{sum_within, back, back_is, back_within, told, min_z}
use Rattle.state.specs.Pairs.{pairs, shares_at}
use Rattle.state.proofs.Sizes.{mapped, pairs_long, inside_more}
use Rattle.state.proofs.Steps.{inside_shares}
use Rattle.lanes.proofs.Laws.{lane_within}
use Rattle.rows.proofs.Down.{arc_laid}
use Rattle.rows.proofs.bring_arc.Goals as goal

pub child-child-requires : goal.child-child-requires
child-child-requires c =
    let a = c.args in (
      c.requires.3,
      omega (arith, c.requires.0.long),
      inside_more 4000000 10000000 (omega arith) (pairs a.x) c.requires.1,
      inside_more 4000000 10000000 (omega arith) (shares_at a.row.now a.v) (inside_shares 4000000 a.row.now a.v c.requires.0.inside),
    )

pub returns : goal.returns
returns c =
    let a = c.args in
    let next = a.next.now in
    let price = get_or a.row.now (64 + a.v) (pos 0) in
    let share = lane_within a.row.now (64 + a.v) c.requires.0.inside in
    let sum : back (back a.cost +ℤ back price) ≡ a.cost +ℤ price =
    back_is (sum_within (back_within c.requires.2 tt) (back_within share tt)) tt ∙ (λ i. back_is c.requires.2 tt i +ℤ back_is share tt i) in
    let least : back c.lesser-least.result ≡ min_z (get_or next (a.to + 16) (pos 0)) (a.cost +ℤ price) =
    told c.lesser-least.result c.lesser-least.type_inv ∙ c.lesser-least.ensures ∙ (λ i. min_z (told (get_or next (a.to + 16) (pos 0)) c.lesser-arg-1.given i) (sum i)) in
    (λ i. set (c.laid.ensures i) (a.to + 16) (back c.lesser-least.result))
    ∙ arc_laid (pairs a.x) a.cost a.row.now next a.v a.to c.requires.3 c.requires.0.long (pairs_long a.x.at (search mapped)) c.requires.4 c.taken-there.ensures c.child-child.ensures c.merged.ensures least
