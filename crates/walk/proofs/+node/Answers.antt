use mathlib.Core.Path.{◌≡◌, refl, sym, ap, ◌∙◌}
use mathlib.Core.Bool.{Bool, true, false, not, ◌&&◌, true≢false}
use Prim.Native.Nat.{zero, suc, ◌≤◌, ◌+◌, ◌*◌, ◌-◌, ℕ, ◌<◌}
use native.Mathlib.Nat.{add-zero}
use native.Mathlib.Omega.{arith}
use lib.Dec.{eqb}
use lib.ListN.{length, get_or, take, drop, set, length-set}
use lib.Seq.{get_or-drop, set-get_or}
use Rattle.slot.specs.Tables.{coefs_in, weights_in, leasts_in, mosts_in, values_in, sets_in}
use Rattle.step.specs.Steps.{totals_at, budget_at, here_at, goes_on, trod}
use Rattle.step.proofs.Steps.{here_long, here_within}
use Rattle.walk.specs.Beginnings.{first_of, Walkable, Finds}
use mathlib.Core.List.{List}
use lib.IntN.{ℤ, pos}
use Rattle.laws.specs.Z.{Within, mul_within}
use Rattle.laws.proofs.Each.{Each, each_more}
use borrow.Author.Tests.{eq-eqb, ne_eqb}
use Rattle.walk.proofs.Places.{arc_place, byte_few, row_few, cells_few, child_end, one_less, rest_within}
use Rattle.walk.proofs.Trail.{level_totals, level_budget, trod_totals, trod_budget, trod_long, totals_long}
use Rattle.walk.proofs.Turns.{sink_leaf, going_begins, going_ends, going_full}
use Rattle.walk.proofs.Paces.{Pace, Stage, same_pace, byte, pace_none, pace_shut, pace_on, pace_last}
use Rattle.walk.proofs.+node.Goals as goal
use Rattle.walk.proofs.+node.Goals.{At-loop-v, Joined-own, Start, else-is_arc, else-is_arc-2, else-own, then-is_arc+else-goes, then-is_arc+then-goes+else-left-ne1, then-is_arc+then-goes+then-left-ne1, then-is_arc-2+else-room-count+else-goes-2, then-is_arc-2+else-room-count+then-goes-2+else-left-eq1, then-is_arc-2+else-room-count+then-goes-2+then-left-eq1, then-own+else-v-ge-STEPS}

-- a byte that leads to a node is not zero
arc_some : {b c : ℕ} {r : Bool} → b ≡ c → r ≡ not (eqb b 0) → r ≡ true → 0 < c
arc_some {b} {c} e f h = some c (ap (λ x. not (eqb x 0)) (sym e) ∙ sym f ∙ h)
  where
    some : (c : ℕ) → not (eqb c 0) ≡ true → 0 < c
    some zero h = absurd (true≢false (sym h))
    some (suc c) h = omega arith

-- behind the start's own step no step is its own
not_own : (o : Bool) (v : ℕ) (pl : List ℕ) (i : ℕ) → (o ≡ true → get_or pl i 0 < v) → o && eqb v (first_of o (drop i pl)) ≡ false
not_own false v pl i h = refl
not_own true v pl i h =
    let e : get_or (drop i pl) 0 0 ≡ get_or pl i 0 = get_or-drop i pl 0 0 ∙ ap (λ (k : ℕ). get_or pl k 0) (add-zero i) in
    ne_eqb v _ (λ f. omega (arith, h refl, f, e))

-- what holds at entry
module _ (t : ℕ) (x : Start t) where
  abbrev n : ℕ
  n = x.args.sizes.now.slots

  abbrev m : ℕ
  m = x.args.sizes.now.rules

  abbrev w : ℕ
  w = x.args.sizes.now.width

  abbrev cap : ℕ
  cap = x.args.sizes.now.room

  abbrev i : ℕ
  i = n - x.args.left

  abbrev cs : List ℤ
  cs = x.args.coefs.now

  abbrev vs : List ℕ
  vs = x.args.values.now

  abbrev bs : List ℕ
  bs = x.args.arcs.now

  abbrev ks : List ℤ
  ks = x.args.cells.now

  abbrev tr : List ℤ
  tr = x.args.trail.now

  abbrev pl : List ℕ
  pl = x.args.plan.now

  abbrev pg : List ℕ
  pg = x.args.page.now

  g : Walkable n m w (weights_in cs) (coefs_in cs) bs ks
  g = x.requires.0

  under : i < n
  under = omega (arith, x.requires.1, x.requires.2)

  abbrev Here : List ℤ → List ℕ → List ℕ → ℕ → ℕ → Type 0
  Here trail plan page t v = Pace n m w cap cs vs bs ks x.args.own i x.args.j tr pl pg x.args.seen trail plan page t v

  abbrev byte_of : ℕ → ℕ
  byte_of v = byte n m w cap cs vs bs ks x.args.own i x.args.j tr pl pg x.args.seen v

  -- where the byte of a step stands
  byte_place : (v : ℕ) → v < 8 → (i * w + x.args.j ≤ 400) × (v < 8) × ((i * w + x.args.j) * 8 + v < length bs)
  byte_place v h = (omega (arith, row_few g i (omega (arith, under)), x.requires.3, g.nodes_few), h, rw g.bytes (arc_place i x.args.j v n w under x.requires.3 h))

  child_place : (v : ℕ) → 0 < byte_of v → (m ≤ 8) × (0 < byte_of v) × ((i + 1) * w + byte_of v ≤ 400)
  child_place v h = (g.rules_few, h, omega (arith, row_few g (i + 1) (omega (arith, under)), byte_few g ((i * w + x.args.j) * 8 + v), g.nodes_few))

  -- the start's own step, or the first
  begins : Here tr pl pg x.args.seen (first_of x.args.own (drop i pl))
  begins = record {
    page_long = refl;
    plan_long = x.requires.12;
    trail_long = x.requires.11;
    begun = refl;
    under = refl;
    few = x.requires.8;
    goes = going_begins n m w (sets_in vs) (weights_in cs) (leasts_in cs) (mosts_in cs) (coefs_in cs) (values_in vs) bs ks x.args.own i x.args.j (totals_at i tr) (budget_at i tr) pl cap pg x.args.seen g under (totals_long i (omega (arith, under, g.slots_few)) tr x.requires.11) x.requires.12 _ refl;
  }

  own_begins : x.args.own ≡ true → (v : ℕ) → v ≡ get_or pl i 0 → Here tr pl pg x.args.seen v
  own_begins o v e = rw (e ∙ ap (λ (k : ℕ). get_or pl k 0) (sym (add-zero i)) ∙ sym (get_or-drop i pl 0 0)) (cond_begins x.args.own o begins)
    where
      cond_begins : (o : Bool) → o ≡ true → Here tr pl pg x.args.seen (first_of o (drop i pl)) → Here tr pl pg x.args.seen (get_or (drop i pl) 0 0)
      cond_begins true e f = f
      cond_begins false e f = absurd (true≢false (sym e))

  module _ {trail : List ℤ} {plan page : List ℕ} {s v : ℕ} (hv : v < 8) (some : 0 < byte_of v) (p : Here trail plan page s v) where
    few24 : i < 24
    few24 = omega (arith, under, g.slots_few)

    -- what the test of a step asks
    goes_place : (m ≤ 8) × (i < 24) × (v < 8) × (((i + 1) * w + byte_of v - 1) * (4 * m + 3) + 4 * m + 3 ≤ length ks) × Each (Within 4000000) ks × Within 10000 (get_or (weights_in cs) i (pos 0)) × Each (Within 1000) (coefs_in cs)
        × Each (Within 200000) (totals_at i trail) × Within 4000000 (budget_at i trail) × (length cs ≡ 232) × (length vs ≡ 216) × (length trail ≡ 225)
    goes_place = (
      g.rules_few,
      few24,
      hv,
      omega (arith, cells_few g i (byte_of v) under (byte_few g ((i * w + x.args.j) * 8 + v)), child_end ((i + 1) * w + byte_of v) m (omega (arith, some))),
      g.inside,
      g.priced i under,
      g.counted,
      rw (level_totals i trail tr p.under) (each_more (Within (7001 * i)) (Within 200000) (λ z k. record { size = omega (arith, few24, k.size) }) (totals_at i tr) x.requires.4),
      rw (level_budget i trail tr p.under) (record { size = omega (arith, few24, x.requires.5.size) }),
      x.requires.9,
      x.requires.10,
      p.trail_long,
    )

    eight : length (here_at cs vs i v trail) ≡ 8
    eight = here_long cs vs i v trail few24 x.requires.9 x.requires.10 p.trail_long

    -- the level behind the step
    next_totals : Each (Within (7001 * suc i)) (totals_at (suc i) (trod cs vs i v trail))
    next_totals =
        let more : 7001 * i + 7001 ≡ 7001 * suc i = omega arith in
        rw (trod_totals cs vs i v trail few24 p.trail_long eight) (rw more at (here_within (7001 * i) cs vs i v trail hv g.counted (rw (level_totals i trail tr p.under) x.requires.4)))

    next_budget : Within (2000000 + 70000 * suc i) (budget_at (suc i) (trod cs vs i v trail))
    next_budget = rw (trod_budget cs vs i v trail few24 p.trail_long eight, level_budget i trail tr p.under) (rest_within i x.requires.5 (mul_within {n = 7} (g.priced i under) (omega (arith, hv))))

    next_place : (x.args.left ≡ 1 → ⊥)
        → (1 ≤ x.args.left - 1) × (x.args.left - 1 ≤ n) × (byte_of v - 1 < w) × Each (Within (7001 * (n - (x.args.left - 1)))) (totals_at (n - (x.args.left - 1)) (trod cs vs i v trail))
        × Within (2000000 + 70000 * (n - (x.args.left - 1))) (budget_at (n - (x.args.left - 1)) (trod cs vs i v trail))
    next_place e =
        let one : n - (x.args.left - 1) ≡ suc i = one_less n x.args.left x.requires.2 (λ z. omega (arith, x.requires.1)) in
        (omega (arith, x.requires.1, e), omega (arith, x.requires.2), omega (arith, some, byte_few g ((i * w + x.args.j) * 8 + v)), rw one next_totals, rw one next_budget)

    next_long : length (trod cs vs i v trail) ≡ 225
    next_long = trod_long cs vs i v trail few24 p.trail_long eight

  free_begins : x.args.own ≡ false → Here tr pl pg x.args.seen 0
  free_begins o = cases x.args.own o begins
    where
      cases : (o : Bool) → o ≡ false → Here tr pl pg x.args.seen (first_of o (drop i pl)) → Here tr pl pg x.args.seen 0
      cases false e f = f
      cases true e f = absurd (true≢false e)

  -- along the start's own step
  module _ (o : x.args.own ≡ true) (v : ℕ) (e : v ≡ get_or pl i 0) (hv : v < 8) (some : 0 < byte_of v) (on : goes_on m cs vs i v ks (((i + 1) * w + byte_of v - 1) * (4 * m + 3)) tr ≡ true) where
    mine : (o : Bool) → o ≡ true → o && eqb v (first_of o (drop i pl)) ≡ true
    mine true h = eq-eqb v _ (e ∙ ap (λ (k : ℕ). get_or pl k 0) (sym (add-zero i)) ∙ sym (get_or-drop i pl 0 0))
    mine false h = absurd (true≢false (sym h))

    unwritten : set pl i v ≡ pl
    unwritten = ap (set pl i) e ∙ set-get_or pl i 0

    own_on : (trail₁ : List ℤ) (plan₁ page₁ : List ℕ) (t₁ : ℕ) → length trail₁ ≡ 225 → take ((suc i + 1) * 9) trail₁ ≡ take ((suc i + 1) * 9) (trod cs vs i v tr) → length plan₁ ≡ 24 → take (suc i) plan₁ ≡ take (suc i) pl
        → length page₁ ≡ length pg → t₁ ≤ suc cap
        → Finds n m w (sets_in vs) (weights_in cs) (leasts_in cs) (mosts_in cs) (coefs_in cs) (values_in vs) bs ks true (suc i) (byte_of v - 1) (totals_at (suc i) (trod cs vs i v tr)) (budget_at (suc i) (trod cs vs i v tr)) pl cap pg x.args.seen page₁ t₁
        → Here trail₁ plan₁ page₁ t₁ (v + 1)
    own_on trail₁ plan₁ page₁ t₁ tl tu p24 pb long few found =
        pace_on n m w cap cs vs bs ks x.args.own i x.args.j tr pl pg x.args.seen g under x.requires.3 x.requires.9 x.requires.10 x.requires.11 hv (own_begins o v e) some on true (mine x.args.own o) (λ h. refl) trail₁ plan₁ page₁ t₁ tl tu p24 (pb ∙ ap (take (suc i)) (sym unwritten)) long few (rw unwritten found)

    own_last : suc i ≡ n → Here (trod cs vs i v tr) pl pg x.args.seen (v + 1)
    own_last last =
        own_on (trod cs vs i v tr) pl pg x.args.seen (next_long hv some (own_begins o v e)) refl x.requires.12 refl refl x.requires.8
        (sink_leaf n m w (sets_in vs) (weights_in cs) (leasts_in cs) (mosts_in cs) (coefs_in cs) (values_in vs) bs ks true (suc i) (byte_of v - 1) (totals_at (suc i) (trod cs vs i v tr)) (budget_at (suc i) (trod cs vs i v tr)) pl cap pg x.args.seen g last pg x.args.seen refl)

-- where the loop begins
entered : (t : ℕ) (k : Joined-own t) → let x = (goal.at.Joined-own t k).Start in
    Stage (n t x) (m t x) (w t x) (cap t x) (cs t x) (vs t x) (bs t x) (ks t x) k.args.own (i t x) k.args.j (tr t x) (pl t x) (pg t x) k.args.seen k.if-own.trail k.if-own.plan k.if-own.page k.if-own.count k.if-own.first
entered t k =
    let x = (goal.at.Joined-own t k).Start in
    elim k.if-own.branch [
      | then-own+else-v-ge-STEPS y ↦ let o = y.if-own.true in
          let hv : get_or (pl t x) (i t x) 0 < 8 = omega (arith, y.if-v-ge-STEPS.false) in
          let p = own_begins t x o _ refl in
          let bytes = y.byte_at-b.ensures in
          let past : k.args.own ≡ true → get_or (pl t x) (i t x) 0 < k.if-own.first = λ h. omega (arith, y.first-is) in
          elim y.if-is_arc.branch [
            | then-is_arc+then-goes+then-left-ne1 z ↦ let some = arc_some bytes y.is_arc.ensures z.if-is_arc.true in
                let at = z.child_at-child.ensures in
                let on = rw (at, bytes) at (sym z.goes.ensures.value ∙ z.if-goes.true) in
                let one = one_less (n t x) k.args.left k.requires.2 (λ h. omega (arith, k.requires.1)) in
                let T = rw (sym z.goes.ensures.value ∙ z.if-goes.true) at z.goes.ensures.trail in
                let call = z.node-count in (
                  same_pace (n t x) (m t x) (w t x) (cap t x) (cs t x) (vs t x) (bs t x) (ks t x) k.args.own (i t x) k.args.j (tr t x) (pl t x) (pg t x) k.args.seen (y.trail-is ∙ z.trail-is) (y.plan-is ∙ z.plan-is) (y.page-is ∙ z.page-is) (y.count-is ∙ z.count-is) y.first-is
                      (own_on t x o _ refl hv some on _ _ _ _ call.ensures.long.1 (rw (one, T) at call.ensures.trodden) call.ensures.long.0 (rw one at call.ensures.begins) call.auto.page call.ensures.few (rw (one, bytes, T) at call.ensures.found)),
                  past,
                )
            | then-is_arc+then-goes+else-left-ne1 z ↦ let some = arc_some bytes y.is_arc.ensures z.if-is_arc.true in
                let on = rw (z.child_at-child.ensures, bytes) at (sym z.goes.ensures.value ∙ z.if-goes.true) in
                let T = rw (sym z.goes.ensures.value ∙ z.if-goes.true) at z.goes.ensures.trail in
                (same_pace (n t x) (m t x) (w t x) (cap t x) (cs t x) (vs t x) (bs t x) (ks t x) k.args.own (i t x) k.args.j (tr t x) (pl t x) (pg t x) k.args.seen (y.trail-is ∙ z.trail-is ∙ T) (y.plan-is ∙ z.plan-is) (y.page-is ∙ z.page-is) (y.count-is ∙ z.count-is) y.first-is (own_last t x o _ refl hv some on (omega (arith, z.if-left-ne1.false, k.requires.2))), past)
            | then-is_arc+else-goes z ↦ let some = arc_some bytes y.is_arc.ensures z.if-is_arc.true in
                let off = rw (z.child_at-child.ensures, bytes) at (sym z.goes.ensures.value ∙ z.if-goes.false) in
                let T = rw (sym z.goes.ensures.value ∙ z.if-goes.false) at z.goes.ensures.trail in
                (same_pace (n t x) (m t x) (w t x) (cap t x) (cs t x) (vs t x) (bs t x) (ks t x) k.args.own (i t x) k.args.j (tr t x) (pl t x) (pg t x) k.args.seen (y.trail-is ∙ z.trail-is ∙ T) (y.plan-is ∙ z.plan-is) (y.page-is ∙ z.page-is) (y.count-is ∙ z.count-is) y.first-is (pace_shut (n t x) (m t x) (w t x) (cap t x) (cs t x) (vs t x) (bs t x) (ks t x) k.args.own (i t x) k.args.j (tr t x) (pl t x) (pg t x) k.args.seen (g t x) (under t x) k.requires.3 k.requires.9 k.requires.10 k.requires.11 hv p some off), past)
            | else-is_arc z ↦ (same_pace (n t x) (m t x) (w t x) (cap t x) (cs t x) (vs t x) (bs t x) (ks t x) k.args.own (i t x) k.args.j (tr t x) (pl t x) (pg t x) k.args.seen (y.trail-is ∙ z.trail-is) (y.plan-is ∙ z.plan-is) (y.page-is ∙ z.page-is) (y.count-is ∙ z.count-is) y.first-is (pace_none (n t x) (m t x) (w t x) (cap t x) (cs t x) (vs t x) (bs t x) (ks t x) k.args.own (i t x) k.args.j (tr t x) (pl t x) (pg t x) k.args.seen (g t x) (under t x) k.requires.3 k.requires.9 k.requires.10 k.requires.11 hv p (rw bytes at (sym y.is_arc.ensures ∙ z.if-is_arc.false))), past)
          ]
      | else-own y ↦ (same_pace (n t x) (m t x) (w t x) (cap t x) (cs t x) (vs t x) (bs t x) (ks t x) k.args.own (i t x) k.args.j (tr t x) (pl t x) (pg t x) k.args.seen y.trail-is y.plan-is y.page-is y.count-is y.first-is (free_begins t x y.if-own.false), (λ h. absurd (true≢false (sym h ∙ y.if-own.false))))
    ]

-- where a turn of the loop begins
stands : (t : ℕ) (k : At-loop-v t) → let x = (goal.at.At-loop-v t k).Start in
    Stage (n t x) (m t x) (w t x) (cap t x) (cs t x) (vs t x) (bs t x) (ks t x) k.args.own (i t x) k.args.j (tr t x) (pl t x) (pg t x) k.args.seen k.loop-v.trail k.loop-v.plan k.loop-v.page k.loop-v.count k.loop-v.v
stands t k = let x = (goal.at.At-loop-v t k).Start in k.loop-v.invariant (tr t x) (pl t x) (pg t x) k.args.seen k.requires.11 (entered t (goal.at.At-loop-v t k).Joined-own)

pub returns-then-v-ge-STEPS : goal.returns-then-v-ge-STEPS
returns-then-v-ge-STEPS t c =
    let x = (goal.at.returns-then-v-ge-STEPS t c).Start in
    record { found = going_ends (n t x) (m t x) (w t x) (sets_in (vs t x)) (weights_in (cs t x)) (leasts_in (cs t x)) (mosts_in (cs t x)) (coefs_in (cs t x)) (values_in (vs t x)) (bs t x) (ks t x) c.args.own (i t x) c.args.j (totals_at (i t x) (tr t x)) (budget_at (i t x) (tr t x)) (pl t x) (cap t x) (pg t x) c.args.seen (pg t x) c.args.seen _ c.if-v-ge-STEPS.true (own_begins t x c.if-own.true _ refl).goes; begins = refl; trodden = refl; long = (c.requires.12, c.requires.11); few = c.requires.8 }

pub byte_at-b-requires : goal.byte_at-b-requires
byte_at-b-requires t c = byte_place t (goal.at.byte_at-b-requires t c).Start _ (omega (arith, c.if-v-ge-STEPS.false))

pub child_at-child-requires : goal.child_at-child-requires
child_at-child-requires t c =
    let x = (goal.at.child_at-child-requires t c).Start in
    rw c.byte_at-b.ensures (child_place t x _ (arc_some c.byte_at-b.ensures c.is_arc.ensures c.if-is_arc.true))

pub goes-requires : goal.goes-requires
goes-requires t c =
    let x = (goal.at.goes-requires t c).Start in
    let some = arc_some c.byte_at-b.ensures c.is_arc.ensures c.if-is_arc.true in
    rw (c.child_at-child.ensures, c.byte_at-b.ensures) (goes_place t x (omega (arith, c.if-v-ge-STEPS.false)) some (own_begins t x c.if-own.true _ refl))

pub overflow_sub-b : goal.overflow_sub-b
overflow_sub-b t c =
    omega (arith, arc_some c.byte_at-b.ensures c.is_arc.ensures c.if-is_arc.true)

pub node-count-requires : goal.node-count-requires
node-count-requires t c =
    let x = (goal.at.node-count-requires t c).Start in
    let bytes = c.byte_at-b.ensures in
    let some = arc_some bytes c.is_arc.ensures c.if-is_arc.true in
    let hv : get_or (pl t x) (i t x) 0 < 8 = omega (arith, c.if-v-ge-STEPS.false) in
    let p = own_begins t x c.if-own.true _ refl in
    let goes = c.goes in
    let on = rw (sym goes.ensures.value ∙ c.if-goes.true) at goes.ensures.trail in
    let next = next_place t x hv some p c.if-left-ne1.true in (
      omega (arith, c.decreases, c.requires.1),
      (
        g t x,
        next.0,
        next.1,
        rw bytes next.2,
        rw on next.3,
        rw on next.4,
        c.requires.6,
        c.requires.7,
        c.requires.8,
        c.requires.9,
        c.requires.10,
        ap length on ∙ next_long t x hv some p,
        c.requires.12,
      ),
    )

pub loop-v-init : goal.loop-v-init
loop-v-init t c = λ tr pl pg s l p. p

pub byte_at-b-requires-in-loop-v : goal.byte_at-b-requires-in-loop-v
byte_at-b-requires-in-loop-v t c = byte_place t (goal.at.byte_at-b-requires-in-loop-v t c).Start _ c.loop-v-test.true

pub shape_of-page-then-room-count : goal.shape_of-page-then-room-count
shape_of-page-then-room-count t c = (stands t (goal.at.shape_of-page-then-room-count t c).At-loop-v).0.page_long

pub returns-then-room-count : goal.returns-then-room-count
returns-then-room-count t c =
    let x = (goal.at.returns-then-room-count t c).Start in
    let k = (goal.at.returns-then-room-count t c).At-loop-v in
    let p = (stands t k).0 in
    record { found = going_full (n t x) (m t x) (w t x) (sets_in (vs t x)) (weights_in (cs t x)) (leasts_in (cs t x)) (mosts_in (cs t x)) (coefs_in (cs t x)) (values_in (vs t x)) (bs t x) (ks t x) c.args.own (i t x) c.args.j (totals_at (i t x) (tr t x)) (budget_at (i t x) (tr t x)) (pl t x) (cap t x) (pg t x) c.args.seen c.loop-v.page c.loop-v.count c.loop-v.v c.if-room-count.true p.goes; begins = p.begun; trodden = p.under; long = (p.plan_long, p.trail_long); few = p.few }

pub child_at-child-requires-then-is_arc-2 : goal.child_at-child-requires-then-is_arc-2
child_at-child-requires-then-is_arc-2 t c =
    let x = (goal.at.child_at-child-requires-then-is_arc-2 t c).Start in
    rw c.byte_at-b-in-loop-v.ensures (child_place t x _ (arc_some c.byte_at-b-in-loop-v.ensures c.is_arc-in-loop-v.ensures c.if-is_arc-2.true))

pub goes-requires-then-is_arc-2 : goal.goes-requires-then-is_arc-2
goes-requires-then-is_arc-2 t c =
    let x = (goal.at.goes-requires-then-is_arc-2 t c).Start in
    let bytes = c.byte_at-b-in-loop-v.ensures in
    let some = arc_some bytes c.is_arc-in-loop-v.ensures c.if-is_arc-2.true in
    rw (c.child_at-child-then-is_arc-2.ensures, bytes) (goes_place t x c.loop-v-test.true some (stands t (goal.at.goes-requires-then-is_arc-2 t c).At-loop-v).0)

pub put-count-requires : goal.put-count-requires
put-count-requires t c =
    let x = (goal.at.put-count-requires t c).Start in
    let p = (stands t (goal.at.put-count-requires t c).At-loop-v).0 in
    ((g t x).slots_few, omega (arith, c.if-room-count.false), rw p.page_long c.requires.6, rw p.page_long c.requires.7, omega (arith, length-set c.loop-v.plan (i t x) c.loop-v.v, p.plan_long, (g t x).slots_few))

pub overflow_sub-b-else-left-eq1 : goal.overflow_sub-b-else-left-eq1
overflow_sub-b-else-left-eq1 t c =
    omega (arith, arc_some c.byte_at-b-in-loop-v.ensures c.is_arc-in-loop-v.ensures c.if-is_arc-2.true)

pub node-count-requires-else-left-eq1 : goal.node-count-requires-else-left-eq1
node-count-requires-else-left-eq1 t c =
    let x = (goal.at.node-count-requires-else-left-eq1 t c).Start in
    let k = (goal.at.node-count-requires-else-left-eq1 t c).At-loop-v in
    let bytes = c.byte_at-b-in-loop-v.ensures in
    let some = arc_some bytes c.is_arc-in-loop-v.ensures c.if-is_arc-2.true in
    let hv = c.loop-v-test.true in
    let p = (stands t k).0 in
    let goes = c.goes-then-is_arc-2 in
    let on = rw (sym goes.ensures.value ∙ c.if-goes-2.true) at goes.ensures.trail in
    let next = next_place t x hv some p c.if-left-eq1.false in (
      omega (arith, c.decreases, c.requires.1),
      (
        g t x,
        next.0,
        next.1,
        rw bytes next.2,
        rw on next.3,
        rw on next.4,
        rw p.page_long c.requires.6,
        rw p.page_long c.requires.7,
        p.few,
        c.requires.9,
        c.requires.10,
        ap length on ∙ next_long t x hv some p,
        length-set c.loop-v.plan (i t x) c.loop-v.v ∙ p.plan_long,
      ),
    )

pub loop-v-preserved : goal.loop-v-preserved
loop-v-preserved t c =
    let x = (goal.at.loop-v-preserved t c).Start in
    let v = c.loop-v.v in
    let hv = c.loop-v-test.true in
    let bytes = c.byte_at-b-in-loop-v.ensures in
    let one = one_less (n t x) c.args.left c.requires.2 (λ h. omega (arith, c.requires.1)) in
    λ tr pl pg s l st.
    let q = c.loop-v.invariant tr pl pg s l st in
    let p = q.0 in
    let past : c.args.own ≡ true → get_or pl (i t x) 0 < v + 1 = λ h. omega (arith, q.1 h) in
    let other = not_own c.args.own v pl (i t x) q.1 in
    elim c.if-is_arc-2.branch [
      | then-is_arc-2+else-room-count+then-goes-2+then-left-eq1 y ↦ let some = arc_some bytes c.is_arc-in-loop-v.ensures y.if-is_arc-2.true in
          let on = rw (y.child_at-child-then-is_arc-2.ensures, bytes) at (sym y.goes-then-is_arc-2.ensures.value ∙ y.if-goes-2.true) in
          let T = rw (sym y.goes-then-is_arc-2.ensures.value ∙ y.if-goes-2.true) at y.goes-then-is_arc-2.ensures.trail in
          (same_pace (n t x) (m t x) (w t x) (cap t x) (cs t x) (vs t x) (bs t x) (ks t x) c.args.own (i t x) c.args.j tr pl pg s (y.trail-is ∙ T) y.plan-is y.page-is y.count-is refl (pace_last (n t x) (m t x) (w t x) (cap t x) (cs t x) (vs t x) (bs t x) (ks t x) c.args.own (i t x) c.args.j tr pl pg s (g t x) (under t x) c.requires.3 c.requires.9 c.requires.10 l hv p some on false other (λ h. absurd (true≢false (sym h))) (omega (arith, y.if-left-eq1.true, c.requires.2)) _ _ y.put-count.auto.page (omega (arith, y.put-count.ensures.one, y.if-room-count.false)) y.put-count.ensures.laid), past)
      | then-is_arc-2+else-room-count+then-goes-2+else-left-eq1 y ↦ let some = arc_some bytes c.is_arc-in-loop-v.ensures y.if-is_arc-2.true in
          let on = rw (y.child_at-child-then-is_arc-2.ensures, bytes) at (sym y.goes-then-is_arc-2.ensures.value ∙ y.if-goes-2.true) in
          let T = rw (sym y.goes-then-is_arc-2.ensures.value ∙ y.if-goes-2.true) at y.goes-then-is_arc-2.ensures.trail in
          let call = y.node-count-else-left-eq1 in
          (same_pace (n t x) (m t x) (w t x) (cap t x) (cs t x) (vs t x) (bs t x) (ks t x) c.args.own (i t x) c.args.j tr pl pg s y.trail-is y.plan-is y.page-is y.count-is refl (pace_on (n t x) (m t x) (w t x) (cap t x) (cs t x) (vs t x) (bs t x) (ks t x) c.args.own (i t x) c.args.j tr pl pg s (g t x) (under t x) c.requires.3 c.requires.9 c.requires.10 l hv p some on false other (λ h. absurd (true≢false (sym h))) _ _ _ _ call.ensures.long.1 (rw (one, T) at call.ensures.trodden) call.ensures.long.0 (rw one at call.ensures.begins) call.auto.page call.ensures.few (rw (one, bytes, T) at call.ensures.found)), past)
      | then-is_arc-2+else-room-count+else-goes-2 y ↦ let some = arc_some bytes c.is_arc-in-loop-v.ensures y.if-is_arc-2.true in
          let off = rw (y.child_at-child-then-is_arc-2.ensures, bytes) at (sym y.goes-then-is_arc-2.ensures.value ∙ y.if-goes-2.false) in
          let T = rw (sym y.goes-then-is_arc-2.ensures.value ∙ y.if-goes-2.false) at y.goes-then-is_arc-2.ensures.trail in
          (same_pace (n t x) (m t x) (w t x) (cap t x) (cs t x) (vs t x) (bs t x) (ks t x) c.args.own (i t x) c.args.j tr pl pg s (y.trail-is ∙ T) y.plan-is y.page-is y.count-is refl (pace_shut (n t x) (m t x) (w t x) (cap t x) (cs t x) (vs t x) (bs t x) (ks t x) c.args.own (i t x) c.args.j tr pl pg s (g t x) (under t x) c.requires.3 c.requires.9 c.requires.10 l hv p some off), past)
      | else-is_arc-2 y ↦ (same_pace (n t x) (m t x) (w t x) (cap t x) (cs t x) (vs t x) (bs t x) (ks t x) c.args.own (i t x) c.args.j tr pl pg s y.trail-is y.plan-is y.page-is y.count-is refl (pace_none (n t x) (m t x) (w t x) (cap t x) (cs t x) (vs t x) (bs t x) (ks t x) c.args.own (i t x) c.args.j tr pl pg s (g t x) (under t x) c.requires.3 c.requires.9 c.requires.10 l hv p (rw bytes at (sym c.is_arc-in-loop-v.ensures ∙ y.if-is_arc-2.false))), past)
    ]

pub shape_of-page : goal.shape_of-page
shape_of-page t c = (stands t (goal.at.shape_of-page t c).At-loop-v).0.page_long

pub returns : goal.returns
returns t c =
    let x = (goal.at.returns t c).Start in
    let k = (goal.at.returns t c).At-loop-v in
    let p = (stands t k).0 in
    record { found = going_ends (n t x) (m t x) (w t x) (sets_in (vs t x)) (weights_in (cs t x)) (leasts_in (cs t x)) (mosts_in (cs t x)) (coefs_in (cs t x)) (values_in (vs t x)) (bs t x) (ks t x) c.args.own (i t x) c.args.j (totals_at (i t x) (tr t x)) (budget_at (i t x) (tr t x)) (pl t x) (cap t x) (pg t x) c.args.seen c.loop-v.page c.loop-v.count c.loop-v.v c.loop-v-test.false p.goes; begins = p.begun; trodden = p.under; long = (p.plan_long, p.trail_long); few = p.few }
