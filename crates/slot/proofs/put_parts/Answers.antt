use mathlib.Core.Path.{◌≡◌, sym, ap, ◌∙◌}
use mathlib.Core.List.{List, map}
use Prim.Native.Nat.{ℕ, ◌+◌, ◌*◌, ◌≤◌}
use native.Mathlib.Numerals.{add-one}
use native.Mathlib.Omega.{arith}
use lib.ListN.{length, get_or, set, take, drop, length-map, get_or-map}
use lib.Seq.{paste, paste-zero, paste-suc, length-paste}
use lib.IntN.{ℤ, pos}
use borrow.Rule.Slice.PartMut.{put_mid}
use Rattle.laws.specs.Z.{back, told}
use Rattle.laws.specs.Lists.{gather, from}
use Rattle.laws.proofs.Filled.{length-padded, part_pasted}
use Rattle.problem.specs.declared.Problem.{Problem}
use Rattle.problem.specs.Held.{no_bounds}
use Rattle.problem.proofs.Arrays.{long}
use Rattle.slot.specs.Rows.{coef_parts, value_parts}
use Rattle.slot.specs.Tables.{weights_in, leasts_in, mosts_in, sets_in, coef_table, value_table}
use Rattle.slot.proofs.Laws.{coefs_long, values_long}
use Rattle.slot.proofs.Laid.{copied_start, copied_more, copied_before, paste_after, padded_take, part_written, row_put}
use Rattle.slot.proofs.put_parts.Goals as goal
use Rattle.slot.proofs.put_parts.Goals.{After-copy_from_slice-3, After-loop-i, Start}

-- the problem's rows and lists
module _ (s : Start) where
  abbrev p : Problem
  p = s.args.p

  abbrev units : ℕ → List ℤ
  units k = coef_parts p.rules k p.terms

  units_wide : (k : ℕ) → length (units k) ≡ 8
  units_wide k = coefs_long p.rules k p.terms

  abbrev counted : ℕ → List ℕ
  counted k = value_parts p.rules k p.terms

  counted_wide : (k : ℕ) → length (counted k) ≡ 8
  counted_wide k = values_long p.rules k p.terms

  weights_long : length p.weights ≡ 24
  weights_long = search long

  sets_long : length p.sets ≡ 24
  sets_long = search long

  bounds_long : length p.bounds ≡ 8
  bounds_long = search long

  abbrev lbs : List ℤ
  lbs = map (λ b. b.lb) p.bounds

  abbrev ubs : List ℤ
  ubs = map (λ b. b.ub) p.bounds

  lbs_long : length lbs ≡ 8
  lbs_long = length-map p.bounds (λ b. b.lb) ∙ bounds_long

  ubs_long : length ubs ≡ 8
  ubs_long = length-map p.bounds (λ b. b.ub) ∙ bounds_long

pub loop-i-preserved : goal.loop-i-preserved
loop-i-preserved c =
    let s = (goal.at.loop-i-preserved c).Start in
    let l = c.loop-i in
    let parts = c.parts_of-parts in
    let room : l.i * 8 + 8 ≤ 192 = omega (arith, c.loop-i-test.true, c.requires.0) in record {
      coefs = row_put 232 (pos 0) (units s) (units_wide s) l.i _ _ l.coefs (omega arith) (omega arith) (c.copy_from_slice.ensures.after ∙ parts.ensures.coefs) l.invariant.coefs;
      values = row_put 216 0 (counted s) (counted_wide s) l.i _ _ l.values (omega arith) (omega arith) (c.copy_from_slice-in-loop-i.ensures.after ∙ parts.ensures.values) l.invariant.values;
    }

-- behind the rows
module _ (c : After-loop-i) where
  abbrev start : Start
  start = (goal.at.After-loop-i c).Start

  coefs_room : length c.loop-i.coefs ≡ 232
  coefs_room = ap length c.loop-i.invariant.coefs ∙ length-padded (pos 0) 232 (gather (units start) (from 0 c.loop-i.i))

  values_room : length c.loop-i.values ≡ 216
  values_room = ap length c.loop-i.invariant.values ∙ length-padded {A = ℕ} 0 216 (gather (counted start) (from 0 c.loop-i.i))

-- the weights are laid, and the sets
module _ (c : After-copy_from_slice-3) where
  abbrev rows : After-loop-i
  rows = (goal.at.After-copy_from_slice-3 c).After-loop-i

  abbrev own : Problem
  own = c.args.p

  weighed_is : put_mid 192 24 c.loop-i.coefs c.copy_from_slice-2.new.self ≡ paste c.loop-i.coefs 192 own.weights 24
  weighed_is = part_written 192 24 c.loop-i.coefs own.weights _ c.copy_from_slice-2.ensures.after (weights_long (start rows))

  allowed_is : put_mid 192 24 c.loop-i.values c.copy_from_slice-3.new.self ≡ paste c.loop-i.values 192 own.sets 24
  allowed_is = part_written 192 24 c.loop-i.values own.sets _ c.copy_from_slice-3.ensures.after (sets_long (start rows))

  weighed_room : length (put_mid 192 24 c.loop-i.coefs c.copy_from_slice-2.new.self) ≡ 232
  weighed_room = ap length weighed_is ∙ length-paste c.loop-i.coefs 192 own.weights 24 (omega (arith, coefs_room rows)) (omega (arith, weights_long (start rows))) ∙ coefs_room rows

pub loop-r-init : goal.loop-r-init
loop-r-init c =
    let s = (goal.at.loop-r-init c).Start in
    let so = put_mid 192 24 c.loop-i.coefs c.copy_from_slice-2.new.self in
    rw (← paste-zero so 216 (lbs s)) (copied_start (omega (arith, weighed_room c, ubs_long s)))

pub loop-r-preserved : goal.loop-r-preserved
loop-r-preserved c =
    let s = (goal.at.loop-r-preserved c).Start in
    let l = c.loop-r in
    let so = put_mid 192 24 c.loop-i.coefs c.copy_from_slice-2.new.self in
    let r = l.r in
    let below = c.loop-r-test.true in
    let bounds = get_or (p s).bounds r no_bounds in
    let least : back bounds.lb ≡ get_or (lbs s) r (pos 0) = told bounds.lb c.coefs-1.given ∙ sym (get_or-map (λ b. b.lb) (p s).bounds r no_bounds) in
    let most : back bounds.ub ≡ get_or (ubs s) r (pos 0) = told bounds.ub c.coefs-in-loop-r-1.given ∙ sym (get_or-map (λ b. b.ub) (p s).bounds r no_bounds) in
    let next : set (paste so 216 (lbs s) r) (216 + r) (get_or (lbs s) r (pos 0)) ≡ paste so 216 (lbs s) (r + 1) = rw add-one (paste-suc so 216 (lbs s) r (pos 0) (omega (arith, weighed_room (goal.at.loop-r-preserved c).After-copy_from_slice-3)) (omega (arith, lbs_long s))) in
    rw least (copied_more (rw next at (copied_before l.invariant (216 + r) (get_or (lbs s) r (pos 0)) (omega arith))) (pos 0) (omega (arith, ubs_long s)) most)

-- the parts of a table over which weights, lbs and ubs were laid
module _ (d weights lb ub : List ℤ) (room : length d ≡ 232) (slots : length weights ≡ 24) (rules : length lb ≡ 8) (same : length ub ≡ 8) where
  abbrev weighed : List ℤ
  weighed = paste d 192 weights 24

  abbrev low : List ℤ
  low = paste weighed 216 lb 8

  abbrev high : List ℤ
  high = paste low 224 ub 8

  weighed_long : length weighed ≡ 232
  weighed_long = length-paste d 192 weights 24 (omega (arith, room)) (omega arith) ∙ room

  low_long : length low ≡ 232
  low_long = length-paste weighed 216 lb 8 (omega (arith, weighed_long)) (omega arith) ∙ weighed_long

  -- what stands before the ubs
  before_ubs : (a k : ℕ) → a + k ≤ 224 → take k (drop a high) ≡ take k (drop a low)
  before_ubs a k h = paste_after low 224 ub 8 a k h (omega (arith, low_long))

  -- and before the lbs
  before_lbs : (a k : ℕ) → a + k ≤ 216 → take k (drop a high) ≡ take k (drop a weighed)
  before_lbs a k h = before_ubs a k (omega arith) ∙ paste_after weighed 216 lb 8 a k h (omega (arith, weighed_long))

  tabled : (take 192 high ≡ take 192 d) × (weights_in high ≡ weights) × (leasts_in high ≡ lb) × (mosts_in high ≡ ub) × (length high ≡ 232)
  tabled = (
    before_lbs 0 192 (omega arith) ∙ paste_after d 192 weights 24 0 192 (omega arith) (omega arith),
    before_lbs 192 24 (omega arith) ∙ part_pasted d 192 weights 24 (omega arith) slots,
    before_ubs 216 8 (omega arith) ∙ part_pasted weighed 216 lb 8 (omega (arith, weighed_long)) rules,
    part_pasted low 224 ub 8 (omega (arith, low_long)) same,
    length-paste low 224 ub 8 (omega (arith, low_long)) (omega arith) ∙ low_long,
  )

pub returns : goal.returns
returns c =
    let s = (goal.at.returns c).Start in
    let a = (goal.at.returns c).After-copy_from_slice-3 in
    let q = c.args.p in
    let l = c.loop-r in
    let d = c.loop-i.coefs in
    let g = c.loop-i.values in
    let n = c.loop-i.i in
    let long = values_room (rows a) in
    let t = tabled d q.weights (lbs s) (ubs s) (coefs_room (rows a)) (weights_long s) (lbs_long s) (ubs_long s) in
    let all : n ≡ q.slots = omega (arith, c.loop-i-test.false) in
    let end : l.r ≡ 8 = omega (arith, c.loop-r-test.false) in
    let coefs : l.coefs ≡ high d q.weights (lbs s) (ubs s) (coefs_room (rows a)) (weights_long s) (lbs_long s) (ubs_long s) = rw (end, weighed_is a) at l.invariant.is in
    let values = allowed_is a in record {
      long = ap length coefs ∙ t.4;
      wide = ap length values ∙ length-paste g 192 q.sets 24 (omega (arith, long)) (omega (arith, sets_long s)) ∙ long;
      coefs_are = ap (take 192) coefs ∙ t.0 ∙ ap (take 192) c.loop-i.invariant.coefs ∙ padded_take 192 232 (pos 0) (gather (units s) (from 0 n)) (omega arith) ∙ ap (λ k. coef_table k q.rules q.terms) all;
      weights_are = ap weights_in coefs ∙ t.1;
      leasts_are = ap leasts_in coefs ∙ t.2;
      mosts_are = ap mosts_in coefs ∙ t.3;
      values_are = ap (take 192) values ∙ paste_after g 192 q.sets 24 0 192 (omega arith) (omega (arith, long)) ∙ ap (take 192) c.loop-i.invariant.values ∙ padded_take 192 216 0 (gather (counted s) (from 0 n)) (omega arith) ∙ ap (λ k. value_table k q.rules q.terms) all;
      sets_are = ap sets_in values ∙ part_pasted g 192 q.sets 24 (omega (arith, long)) (sets_long s);
    }
