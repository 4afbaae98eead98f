use mathlib.Core.Path.{◌≡◌, refl, ap, ◌∙◌}
use Prim.Native.Nat.{◌+◌, ◌<◌}
use native.Mathlib.Omega.{arith}
use lib.ListN.{length}
use lib.IntN.{ℤ}
use mir.Facts.{to_z-of_z}
use Rattle.laws.specs.Z.{back, back_within}
use Rattle.meaning.specs.Diagram.{relaxed, built}
use Rattle.meaning.specs.Filter.{down_numbers, on_path, relaxed_arcs}
use Rattle.meaning.specs.Buffers.{arcs_in, cells_need, number_cells}
use Rattle.problem.specs.Held.{campaign_of}
use Rattle.problem.proofs.Arrays.{long}
use Rattle.lent.specs.Wide.{laid}
use Rattle.lent.proofs.Shape.{built_shaped}
use Rattle.numbers.specs.Whole.{half_cells}
use Rattle.numbers.proofs.Held.{held_formed}
use Rattle.diagram.proofs.Refused.{slots_are}
use Rattle.diagram.proofs.Rounds.{standing_whole, held_half, held_drops, held_swept, half_need, behind_shaped, round_next, stops_bytes, stops_cells}
use Rattle.diagram.proofs.filter.Goals as goal
use Rattle.diagram.proofs.filter.Goals.{Start}

sets_long : (s : Start) → length s.args.p.now.sets ≡ 24
sets_long s = search long

-- at the start: the cells hold the down numbers of the bytes, and are of the need's length
half : (s : Start) → (let q = campaign_of s.args.p.now in s.args.cells.now ≡ half_cells q s.args.w (down_numbers q (arcs_in q s.args.w s.args.arcs.now)))
half s =
    let q = campaign_of s.args.p.now in
    let w = s.args.w in
    held_half q w (built relaxed q w) (built_shaped relaxed q w s.requires.0.some) s.args.arcs.now s.requires.2 s.requires.3

room : (s : Start) → length s.args.cells.now ≡ cells_need (campaign_of s.args.p.now) s.args.w
room s =
    let q = campaign_of s.args.p.now in
    let w = s.args.w in
    half_need s.requires.0 (sets_long s) (held_formed q w (built relaxed q w) (built_shaped relaxed q w s.requires.0.some) s.args.arcs.now s.requires.2) (half s)

pub loop-round-init : goal.loop-round-init
loop-round-init c = (refl, refl, c.requires.2, let s = (goal.at.loop-round-init c).Start in standing_whole (omega (arith, slots_are c.args.p.now c.requires.0.right (sets_long s))) (half s))

pub round-from-requires : goal.round-from-requires
round-from-requires c =
    let s = (goal.at.round-from-requires c).Start in
    let l = c.loop-round in
    let q = campaign_of c.args.p.now in
    let z = back c.args.ceiling in
    let some = c.requires.0.some in
    (c.requires.0, c.requires.4, back_within c.requires.1 tt, held_formed q c.args.w _ (behind_shaped z q c.args.w some l._round) l.arcs l.invariant.2, l.invariant.1 ∙ room s, l.invariant.3)

pub shape_of-arcs-then-from-n : goal.shape_of-arcs-then-from-n
shape_of-arcs-then-from-n c = c.round-from.auto.arcs ∙ c.loop-round.invariant.0

pub shape_of-cells-then-from-n : goal.shape_of-cells-then-from-n
shape_of-cells-then-from-n c = c.round-from.auto.cells ∙ c.loop-round.invariant.1

pub returns-then-from-n : goal.returns-then-from-n
returns-then-from-n c =
    let s = (goal.at.returns-then-from-n c).Start in
    let l = c.loop-round in
    let r = c.round-from in
    let a = c.args in
    let q = campaign_of c.args.p.now in
    let z = back a.ceiling in
    let is = to_z-of_z c.ranges.ceiling in
    let need = cells_need q a.w in
    let none = r.ensures.fixed c.if-from-n.true in
    let more : l._round < a.rounds = omega arith in record { arcs = stops_bytes z q a.w c.requires.0.some l._round l.arcs _ l.invariant.2 r.ensures.arcs a.rounds more none.0 ∙ ap (λ (t : ℤ). laid 8 a.w (relaxed_arcs q a.w a.rounds t)) is; cells = stops_cells z q a.w c.requires.0.some l._round l.arcs _ l.invariant.2 r.ensures.arcs a.rounds more none.0 _ none.1 need (r.auto.cells ∙ l.invariant.1 ∙ room s) ∙ ap (λ (t : ℤ). number_cells q a.w need (relaxed_arcs q a.w a.rounds t)) is }

pub loop-round-preserved : goal.loop-round-preserved
loop-round-preserved c =
    let l = c.loop-round in
    let r = c.round-from in
    let a = c.args in
    let q = campaign_of c.args.p.now in
    let z = back a.ceiling in
    let next = round_next z q a.w c.requires.0.some l._round l.arcs _ l.invariant.2 r.ensures.arcs in
    let more : r.result < a.p.now.slots = omega (arith, r.ensures.long.0, c.if-from-n.false) in (
      r.auto.arcs ∙ l.invariant.0,
      r.auto.cells ∙ l.invariant.1,
      next,
      r.ensures.stands more (held_formed q a.w _ (behind_shaped z q a.w c.requires.0.some (l._round + 1)) _ next),
    )

pub sweep-requires : goal.sweep-requires
sweep-requires c =
    let s = (goal.at.sweep-requires c).Start in
    let l = c.loop-round in
    let q = campaign_of c.args.p.now in
    let z = back c.args.ceiling in
    let some = c.requires.0.some in
    (c.requires.0, c.requires.4, held_formed q c.args.w _ (behind_shaped z q c.args.w some l._round) l.arcs l.invariant.2, l.invariant.1 ∙ room s, l.invariant.3)

pub shape_of-arcs : goal.shape_of-arcs
shape_of-arcs c = c.sweep.auto.arcs ∙ c.loop-round.invariant.0

pub shape_of-cells : goal.shape_of-cells
shape_of-cells c = c.sweep.auto.cells ∙ c.loop-round.invariant.1

pub returns : goal.returns
returns c =
    let s = (goal.at.returns c).Start in
    let l = c.loop-round in
    let r = c.sweep in
    let a = c.args in
    let q = campaign_of c.args.p.now in
    let z = back a.ceiling in
    let is = to_z-of_z c.ranges.ceiling in
    let need = cells_need q a.w in
    let end : l._round ≡ a.rounds = omega arith in
    let shaped = behind_shaped z q a.w c.requires.0.some l._round in record { arcs = held_drops q a.w _ shaped l.arcs l.invariant.2 on_path r.ensures.arcs ∙ (λ i. laid 8 a.w (relaxed_arcs q a.w (end i) (is i))); cells = held_swept q a.w _ shaped l.arcs l.invariant.2 _ r.ensures.cells need (r.auto.cells ∙ l.invariant.1 ∙ room s) ∙ (λ i. number_cells q a.w need (relaxed_arcs q a.w (end i) (is i))) }
