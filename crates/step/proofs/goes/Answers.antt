-- `goes` meets its contract: test by test; the first that fails decides.
use mathlib.Core.Path.{◌≡◌, refl, sym, ap, ◌∙◌}
use mathlib.Core.List.{List, [], ◌∷◌, ◌++◌}
use mathlib.Core.Bool.{Bool, not, ◌&&◌}
use Prim.Native.Nat.{ℕ, ◌+◌, ◌*◌}
use lib.ListN.{get_or}
use lib.Seq.{paste}
use lib.IntN.{ℤ, pos, ◌-ℤ◌, ◌*ℤ◌}
use lib.Signed.{le_z, lt_z}
use mir.Syntax.{w32}
use mir.Val.{SFits}
use mir.Facts.{to_z-of_z}
use Rattle.laws.specs.Z.{Within, widen, back, back_is, back_within}
use Rattle.laws.proofs.Each.{each_more}
use Rattle.laws.proofs.Lists.{and_false}
use Rattle.meaning.specs.Plan.{allows}
use Rattle.slot.specs.Tables.{weights_in, leasts_in, mosts_in, sets_in}
use Rattle.step.specs.Steps.{may_keep, totals_at, budget_at, rest_at, here_at, goes_on, trod}
use Rattle.slot.proofs.Laid.{part_at}
use Rattle.step.proofs.Steps.{both_fits, both_is, le_not, less_within, here_within, goes_not, goes_so}
use borrow.Author.Tests.{not-true, not-false}
use Rattle.step.proofs.goes.Goals as goal
use Rattle.step.proofs.goes.Goals.{After-allows, After-may_keep_all, After-price, After-t26-1, Start}

-- what the walk reads, and the tests
module _ (s : Start) where
  abbrev coefs : List ℤ
  coefs = s.args.coefs.now

  abbrev values : List ℕ
  values = s.args.values.now

  abbrev i : ℕ
  i = s.args.i

  abbrev v : ℕ
  v = s.args.v

  abbrev cells : List ℤ
  cells = s.args.cells.now

  abbrev trail : List ℤ
  trail = s.args.trail.now

  abbrev on : Bool
  on = goes_on s.args.m coefs values i v cells s.args.at trail

  abbrev keeps : Bool
  keeps = may_keep s.args.m (leasts_in coefs) (mosts_in coefs) cells s.args.at (here_at coefs values i v trail)

  weight_is : get_or (weights_in coefs) i (pos 0) ≡ get_or coefs (192 + i) (pos 0)
  weight_is = part_at 24 192 coefs (pos 0) i s.requires.1

  weight_within : Within 10000 (get_or coefs (192 + i) (pos 0))
  weight_within = rw weight_is at s.requires.5

-- the slot allows the step, or it does not
allowed : (c : After-allows) {t : Bool} → c.allows.result ≡ t → allows 8 (get_or (sets_in (values (goal.at.After-allows c).Start)) (i (goal.at.After-allows c).Start) 0) (v (goal.at.After-allows c).Start) ≡ t
allowed c e =
    let s = (goal.at.After-allows c).Start in
    ap (λ k. allows 8 k (v s)) (part_at 24 192 (values s) 0 (i s) c.requires.1) ∙ sym c.allows.ensures ∙ e

-- what is left of the ceiling
module _ (c : After-price) where
  abbrev start : Start
  start = (goal.at.After-price c).Start

  rest_fits : SFits w32 (back (get_or (trail start) (i start * 9 + 8) (pos 0)) -ℤ back c.price.result)
  rest_fits = both_fits ◌-ℤ◌ start.requires.8 c.price.ensures.1 (less_within start.requires.8 c.price.ensures.1) tt tt tt

  rest_is : back (back (get_or (trail start) (i start * 9 + 8) (pos 0)) -ℤ back c.price.result) ≡ rest_at (coefs start) (i start) (v start) (trail start)
  rest_is =
      both_is ◌-ℤ◌ start.requires.8 c.price.ensures.1 (less_within start.requires.8 c.price.ensures.1) tt tt tt
      ∙ ap (λ z. budget_at (i start) (trail start) -ℤ z) (c.price.ensures.0 ∙ ap (λ z. z *ℤ pos (v start)) (back_is (weight_within start) tt ∙ sym (weight_is start)))

-- the sink is within it, or beyond
module _ (c : After-t26-1) where
  abbrev sink : ℤ
  sink = get_or (cells (start (goal.at.After-t26-1 c).After-price)) ((start (goal.at.After-t26-1 c).After-price).args.at + 4 * (start (goal.at.After-t26-1 c).After-price).args.m + 2) (pos 0)

  sink_fits : SFits w32 sink
  sink_fits = record { sfits = c.t26-1.given }

  abbrev rest : ℤ
  rest = let s = start (goal.at.After-t26-1 c).After-price in rest_at (coefs s) (i s) (v s) (trail s)

  reached : {t : Bool} → lt_z (back (back (get_or (trail (start (goal.at.After-t26-1 c).After-price)) (i (start (goal.at.After-t26-1 c).After-price) * 9 + 8) (pos 0)) -ℤ back c.price.result)) (back sink) ≡ t → le_z sink rest ≡ not t
  reached {t} e = le_not rest sink t (rw (rest_is (goal.at.After-t26-1 c).After-price, to_z-of_z sink_fits) at e)

-- the rules may be kept, or they may not
module _ (c : After-may_keep_all) where
  abbrev begin : Start
  begin = start (goal.at.After-may_keep_all c).After-price

  kept : {t : Bool} → c.may_keep_all.result ≡ t → keeps begin ≡ t
  kept e = ap (may_keep begin.args.m (leasts_in (coefs begin)) (mosts_in (coefs begin)) (cells begin) begin.args.at) (sym c.with_shares-totals.ensures) ∙ sym c.may_keep_all.ensures ∙ e

pub returns-then-not-allows : goal.returns-then-not-allows
returns-then-not-allows c = let all = let s = (goal.at.returns-then-not-allows c).Start in
    let no = allowed (goal.at.returns-then-not-allows c).After-allows (not-true c.allows.result c.if-not-allows.true-raw) in
    goes_not (on s) (trod (coefs s) (values s) (i s) (v s) (trail s)) (trail s) (rw no refl) in record { value = all.0; trail = all.1 }

pub price-requires : goal.price-requires
price-requires c =
    let s = (goal.at.price-requires c).Start in
    (c.requires.2, back_within (weight_within s) tt)

pub overflow_sub-rest : goal.overflow_sub-rest
overflow_sub-rest c = rest_fits c

pub returns-then-rest-cells : goal.returns-then-rest-cells
returns-then-rest-cells c = let all = let p = (goal.at.returns-then-rest-cells c).After-price in
    let s = start p in
    let yes = allowed (goal.at.returns-then-rest-cells c).After-allows (not-false c.allows.result c.if-not-allows.false-raw) in
    let no = reached (goal.at.returns-then-rest-cells c).After-t26-1 c.if-rest-cells.true in
    goes_not (on s) (trod (coefs s) (values s) (i s) (v s) (trail s)) (trail s) (rw (yes, no) refl) in record { value = all.0; trail = all.1 }

pub with_shares-totals-requires : goal.with_shares-totals-requires
with_shares-totals-requires c =
    let s = start (goal.at.with_shares-totals-requires c).After-price in
    let p = s.requires in
    (p.1, p.2, p.6, each_more (Within 200000) (Within 1000000) (λ z h. widen tt h) (totals_at (i s) (trail s)) p.7, p.9, p.10, p.11)

pub may_keep_all-requires : goal.may_keep_all-requires
may_keep_all-requires c =
    let s = start (goal.at.may_keep_all-requires c).After-price in
    let p = s.requires in
    let here = here_at (coefs s) (values s) (i s) (v s) (trail s) in
    let few = each_more (Within 207001) (Within 1000000) (λ z h. widen tt h) here (here_within 200000 (coefs s) (values s) (i s) (v s) (trail s) p.2 p.6 p.7) in
    (p.0, p.3, p.4, rw c.with_shares-totals.ensures few, p.9)

pub returns-then-not-may_keep_all : goal.returns-then-not-may_keep_all
returns-then-not-may_keep_all c = let all = let k = (goal.at.returns-then-not-may_keep_all c).After-may_keep_all in
    let w = (goal.at.returns-then-not-may_keep_all c).After-t26-1 in
    let s = begin k in
    let no = kept k (not-true c.may_keep_all.result c.if-not-may_keep_all.true-raw) in
    goes_not (on s) (trod (coefs s) (values s) (i s) (v s) (trail s)) (trail s) (and_false (allows 8 (get_or (sets_in (values s)) (i s) 0) (v s) && le_z (sink w) (rest w)) (keeps s) no) in record { value = all.0; trail = all.1 }

pub returns : goal.returns
returns c =
    let k = (goal.at.returns c).After-may_keep_all in
    let w = (goal.at.returns c).After-t26-1 in
    let p = (goal.at.returns c).After-price in
    let s = begin k in
    let yes = allowed (goal.at.returns c).After-allows (not-false c.allows.result c.if-not-allows.false-raw) in
    let low = reached w c.if-rest-cells.false in
    let keeps = kept k (not-false c.may_keep_all.result c.if-not-may_keep_all.false-raw) in
    let laid : c.put_level.new.trail ≡ trod (coefs s) (values s) (i s) (v s) (trail s) = c.put_level.ensures ∙ (λ t. paste (trail s) ((i s + 1) * 9) (c.with_shares-totals.ensures t ++ (rest_is p t ∷ [])) 9) in
    let so = goes_so (on s) (trod (coefs s) (values s) (i s) (v s) (trail s)) (trail s) (rw (yes, low, keeps) refl) in
    record { value = so.0; trail = laid ∙ so.1 }
