-- The walk runs where each thing that it asks for was tested.
use Rattle.std.proofs.Common.{rules, ◌≡◌, length, refl, arith, sym, ◌∙◌}
use mathlib.Core.Logic.{inl, inr}
use Rattle.problem.specs.Held.{campaign_of}
use Rattle.problem.proofs.Arrays.{long}
use Rattle.diagram.proofs.Refused.{numbers_right, slots_are, cells_need_lem}
use Rattle.diagrams.proofs.walk.Goals as goal
use Rattle.diagrams.proofs.walk.Goals.{Start, else-not-is_empty-via-then-not-is_empty+else-call-slots, else-not-is_empty-via-else-not-is_empty}

sets_long : (s : Start) → length s.args.problem.sets ≡ 24
sets_long s = search long

pub walk-requires : goal.walk-requires
walk-requires c =
    let call = c.args.call.now in
    let p = c.args.problem in
    let sets = sets_long (goal.at.walk-requires c).Start in
    let t = numbers_right call.width 0 _ (sym c.numbers_are_right.ensures ∙ c.if-not-numbers_are_right.false) in (
      record { right = c.requires; some = t.0; few = t.1 },
      t.2,
      elim c.else-not-is_empty.branch [
        | else-not-is_empty-via-then-not-is_empty+else-call-slots w ↦ inr w.if-call-slots.false
        | else-not-is_empty-via-else-not-is_empty w ↦ inl (search rules)
      ],
      c.is_formed.ensures c.if-not-is_formed.false (campaign_of p) refl (slots_are p c.requires sets),
      c.if-cells-cells_need.false ∙ c.cells_need.ensures ∙ cells_need_lem p c.requires sets call.width,
      omega (arith, c.if-page-slots.false),
    )
