use mathlib.Core.Path.{◌≡◌, sym, ap, ◌∙◌}
use mathlib.Core.List.{List, ◌++◌, map}
use Prim.Native.Nat.{ℕ, ◌+◌, ◌*◌, ◌-◌, ◌<◌}
use native.Mathlib.Omega.{arith}
use lib.ListN.{length, get_or, set, take, drop, length-drop}
use lib.Seq.{length-take-le}
use lib.IntN.{ℤ, pos, ◌*ℤ◌}
use Rattle.laws.specs.Z.{Within, back, back_is, back_within}
use Rattle.laws.specs.Lists.{gather, from}
use Rattle.laws.proofs.Each.{Each, each_take, each_drop}
use Rattle.laws.proofs.Filled.{take_within}
use Rattle.slot.specs.Rows.{lanes_of}
use Rattle.slot.specs.Tables.{coefs_in, weights_in}
use Rattle.slot.proofs.Laid.{part_long, part_at}
use Rattle.slot.proofs.Laws.{Priced, priced_none, priced_more, priced_all, laid_long, lanes_long}
use Rattle.slot.proofs.slot_row.Goals as goal
use Rattle.slot.proofs.slot_row.Goals.{After-parts_at-parts, After-row-1, Start}

pub parts_at-parts-requires : goal.parts_at-parts-requires
parts_at-parts-requires c = (c.requires.0, c.requires.3, c.requires.4)

-- what stands in the tables: the weight, and eight parts of each kind
module _ (c : After-parts_at-parts) where
  abbrev s : Start
  s = (goal.at.After-parts_at-parts c).Start

  abbrev weight : ℤ
  weight = get_or s.args.coefs.now (192 + s.args.i) (pos 0)

  weight_is : weight ≡ get_or (weights_in s.args.coefs.now) s.args.i (pos 0)
  weight_is = sym (part_at 24 192 s.args.coefs.now (pos 0) s.args.i s.requires.0)

  weight_within : Within 10000 weight
  weight_within = rw weight_is s.requires.2

  coefs_within : Each (Within 1000) c.parts_at-parts.result.coefs
  coefs_within =
      let at = s.args.i * 8 in
      let cs = s.args.coefs.now in
      rw (c.parts_at-parts.ensures.coefs, ← take_within at 8 192 cs (omega (arith, s.requires.0))) (each_take (Within 1000) 8 (drop at (coefs_in cs)) (each_drop (Within 1000) at (coefs_in cs) s.requires.1))

  coefs_eight : length c.parts_at-parts.result.coefs ≡ 8
  coefs_eight = ap length c.parts_at-parts.ensures.coefs ∙ part_long 8 (s.args.i * 8) s.args.coefs.now (omega (arith, s.requires.0, s.requires.3))

  values_eight : length c.parts_at-parts.result.values ≡ 8
  values_eight = ap length c.parts_at-parts.ensures.values ∙ part_long 8 (s.args.i * 8) s.args.values.now (omega (arith, s.requires.0, s.requires.4))

pub loop-v-init : goal.loop-v-init
loop-v-init c =
    let p = c.parts_at-parts.result in
    (c.requires.5, priced_none (lanes_of p.coefs p.values) (λ k. back (weight (goal.at.loop-v-init c).After-parts_at-parts) *ℤ pos k) c.args.row.now c.requires.5)

pub step_shares-requires : goal.step_shares-requires
step_shares-requires c =
    let l = c.loop-v in (
      c.loop-v-test.true,
      coefs_within (goal.at.step_shares-requires c).After-parts_at-parts,
      length-take-le (l.v * 8 + 8 - l.v * 8) (drop (l.v * 8) l.row) (omega (arith, length-drop (l.v * 8) l.row, l.invariant.0)) ∙ omega arith,
    )

pub price-requires : goal.price-requires
price-requires c = (c.loop-v-test.true, back_within (weight_within (goal.at.price-requires c).After-parts_at-parts) tt)

-- a turn lays eight shares
module _ (c : After-row-1) where
  abbrev parts : After-parts_at-parts
  parts = (goal.at.After-row-1 c).After-parts_at-parts

  abbrev shares : ℕ → List ℤ
  shares = lanes_of parts.parts_at-parts.result.coefs parts.parts_at-parts.result.values

  abbrev price : ℕ → ℤ
  price k = back (weight parts) *ℤ pos k

  abbrev v : ℕ
  v = c.loop-v.v

  abbrev x : List ℤ
  x = c.step_shares.new.row

  x_eight : length x ≡ 8
  x_eight = ap length c.step_shares.ensures ∙ lanes_long parts.parts_at-parts.result.coefs parts.parts_at-parts.result.values v (coefs_eight parts ∙ sym (values_eight parts)) ∙ coefs_eight parts

  abbrev laid : List ℤ
  laid = let row = c.loop-v.row in take (v * 8) row ++ (x ++ drop (v * 8 + 8 - v * 8) (drop (v * 8) row))

  below : v < 8
  below = c.loop-v-test.true

  room : length laid ≡ 72
  room = laid_long shares price c.loop-v.row x v (v * 8 + 8 - v * 8) (omega arith) below c.loop-v.invariant.1 c.step_shares.ensures x_eight

  next : {y : ℤ} → y ≡ price v → Priced shares price (set laid (64 + v) y) (v + 1)
  next = priced_more shares price c.loop-v.row x v (v * 8 + 8 - v * 8) (omega arith) below c.loop-v.invariant.1 c.step_shares.ensures x_eight

pub bounds-row-v : goal.bounds-row-v
bounds-row-v c = omega (arith, room (goal.at.bounds-row-v c).After-row-1, below (goal.at.bounds-row-v c).After-row-1)

pub loop-v-preserved : goal.loop-v-preserved
loop-v-preserved c =
    let new = next (goal.at.loop-v-preserved c).After-row-1 (back_is c.price.ensures.1 tt ∙ c.price.ensures.0) in
    (new.long, new)

pub shape_of-row : goal.shape_of-row
shape_of-row c = c.loop-v.invariant.0 ∙ sym c.requires.5

pub returns : goal.returns
returns c =
    let l = c.loop-v in
    let p = c.parts_at-parts in
    let at = (goal.at.returns c).After-parts_at-parts in
    let end : l.v ≡ 8 = omega arith in
    let z = back (weight at) in
    let all = priced_all (lanes_of p.result.coefs p.result.values) (λ k. z *ℤ pos k) l.row (rw end at l.invariant.1) in
    let same : z ≡ get_or (weights_in (s at).args.coefs.now) (s at).args.i (pos 0) = back_is (weight_within at) tt ∙ weight_is at in
    all ∙ (λ j. gather (lanes_of (p.ensures.coefs j) (p.ensures.values j)) (from 0 8) ++ map (λ v. same j *ℤ pos v) (from 0 8))
