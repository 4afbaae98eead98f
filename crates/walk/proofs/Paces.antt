-- What stands between two steps of the recursion, and what does a step make of it?
use mathlib.Core.Path.{◌≡◌, refl, sym, ◌∙◌}
use mathlib.Core.List.{List}
use mathlib.Core.Bool.{Bool, true, false, not, ◌&&◌, cond, true≢false}
use Prim.Native.Nat.{ℕ, suc, ◌+◌, ◌*◌, ◌-◌, ◌≤◌, ◌<◌}
use native.Mathlib.Omega.{arith}
use borrow.Author.Tests.{ne_eqb}
use lib.Dec.{eqb}
use lib.ListN.{length, get_or, set, take, drop, length-set}
use lib.Seq.{take-set-le}
use lib.IntN.{ℤ}
use Rattle.slot.specs.Tables.{coefs_in, weights_in, leasts_in, mosts_in, values_in, sets_in}
use Rattle.step.specs.Steps.{laying, may_keep, totals_at, budget_at, rest_at, here_at, goes_on, trod}
use Rattle.walk.specs.Beginnings.{Walkable, Finds, first_of, is_open}
use Rattle.walk.proofs.Trail.{level_totals, level_budget, below, trod_below, trod_totals, trod_budget, trod_long, totals_long}
use Rattle.step.proofs.Steps.{here_long}
use Rattle.walk.proofs.Turns.{Going, sink_leaf, going_past, going_back, going_on, still}

module _ (n m w cap : ℕ) (cs : List ℤ) (vs bs : List ℕ) (ks : List ℤ) (own : Bool) (i j : ℕ) (tr : List ℤ) (pl pg : List ℕ) (seen : ℕ) where
  -- what is left from step v on gives the whole
  abbrev pub Goes : List ℕ → ℕ → ℕ → Type 0
  Goes later t v = Going n m w (sets_in vs) (weights_in cs) (leasts_in cs) (mosts_in cs) (coefs_in cs) (values_in vs) bs ks own i j (totals_at i tr) (budget_at i tr) pl cap pg seen later t v

  -- the byte of step v, and where the cells of its child begin
  abbrev pub byte : ℕ → ℕ
  byte v = get_or bs ((i * w + j) * 8 + v) 0

  abbrev pub child : ℕ → ℕ
  child v = ((i + 1) * w + byte v - 1) * (4 * m + 3)

  -- before step v: the trail and the plan are as at entry as far as slot i, and the page is right so far
  pub record Pace (trail : List ℤ) (plan page : List ℕ) (t v : ℕ) : Type 0 where
    pub page_long : length page ≡ length pg
    pub plan_long : length plan ≡ 24
    pub trail_long : length trail ≡ 225
    pub begun : take i plan ≡ take i pl
    pub under : take ((i + 1) * 9) trail ≡ take ((i + 1) * 9) tr
    pub few : t ≤ suc cap
    pub goes : Goes page t v

  -- the same of equals
  pub same_pace : {trail trail₁ : List ℤ} {plan plan₁ page page₁ : List ℕ} {t t₁ v v₁ : ℕ} → trail ≡ trail₁ → plan ≡ plan₁ → page ≡ page₁ → t ≡ t₁ → v ≡ v₁ → Pace trail₁ plan₁ page₁ t₁ v₁ → Pace trail plan page t v
  same_pace a b c d e p = rw (a, b, c, d, e) p

  -- and the start's own step is behind
  abbrev pub Stage : List ℤ → List ℕ → List ℕ → ℕ → ℕ → Type 0
  Stage trail plan page t v = Pace trail plan page t v × (own ≡ true → get_or pl i 0 < v)

  module _ (g : Walkable n m w (weights_in cs) (coefs_in cs) bs ks) (hi : i < n) (hj : j < w) (c232 : length cs ≡ 232) (v216 : length vs ≡ 216) (t225 : length tr ≡ 225) where
    eight : length (totals_at i tr) ≡ 8
    eight = let few = g.slots_few in totals_long i (omega arith) tr t225

    abbrev pub opens_at : ℕ → Bool
    opens_at v = is_open m (get_or (sets_in vs) i 0) v (byte v) ((i + 1) * w) ks (rest_at cs i v tr)

    abbrev pub keeps_at : ℕ → Bool
    keeps_at v = may_keep m (leasts_in cs) (mosts_in cs) ks (child v) (here_at cs vs i v tr)

    module _ {trail : List ℤ} {plan page : List ℕ} {t v : ℕ} (hv : v < 8) (p : Pace trail plan page t v) where
      -- the test reads no more than the level of slot i
      here_same : here_at cs vs i v trail ≡ here_at cs vs i v tr
      here_same = rw (level_totals i trail tr p.under) refl

      here_eight : length (here_at cs vs i v trail) ≡ 8
      here_eight = let few = g.slots_few in here_long cs vs i v trail (omega arith) c232 v216 p.trail_long

      rest_same : rest_at cs i v trail ≡ rest_at cs i v tr
      rest_same = rw (level_budget i trail tr p.under) refl

      goes_same : 0 < byte v → goes_on m cs vs i v ks (child v) trail ≡ opens_at v && keeps_at v
      goes_same h = rw (here_same, rest_same, ne_eqb (byte v) 0 (λ e. omega arith)) refl

      next : Goes page t (v + 1) → Pace trail plan page t (v + 1)
      next f = record { page_long = p.page_long; plan_long = p.plan_long; trail_long = p.trail_long; begun = p.begun; under = p.under; few = p.few; goes = f }

      shut : opens_at v ≡ false → Goes page t (v + 1)
      shut o = going_past n m w (sets_in vs) (weights_in cs) (leasts_in cs) (mosts_in cs) (coefs_in cs) (values_in vs) bs ks own i j (totals_at i tr) (budget_at i tr) pl cap pg seen g hi hj eight v hv page t o p.goes

      cut : opens_at v ≡ true → keeps_at v ≡ false → Goes page t (v + 1)
      cut o k = going_back n m w (sets_in vs) (weights_in cs) (leasts_in cs) (mosts_in cs) (coefs_in cs) (values_in vs) bs ks own i j (totals_at i tr) (budget_at i tr) pl cap pg seen g hi hj eight v hv page t o k p.goes

      -- no arc
      pub pace_none : not (eqb (byte v) 0) ≡ false → Pace trail plan page t (v + 1)
      pace_none e = next (shut (rw e refl))

      -- an arc along which the walk does not go
      pub pace_shut : 0 < byte v → goes_on m cs vs i v ks (child v) trail ≡ false → Pace trail plan page t (v + 1)
      pace_shut h e = next (cases (opens_at v) (keeps_at v) refl refl (sym (goes_same h) ∙ e))
        where
          cases : (o k : Bool) → opens_at v ≡ o → keeps_at v ≡ k → o && k ≡ false → Goes page t (v + 1)
          cases false k eo ek h = shut eo
          cases true false eo ek h = cut eo ek
          cases true true eo ek h = absurd (true≢false h)

      both : (o k : Bool) → o && k ≡ true → (o ≡ true) × (k ≡ true)
      both true true e = (refl, refl)
      both true false e = absurd (true≢false (sym e))
      both false k e = absurd (true≢false (sym e))

      -- an arc along which it goes, and what was found there
      pub pace_on : 0 < byte v → goes_on m cs vs i v ks (child v) trail ≡ true → (mine : Bool) → own && eqb v (first_of own (drop i pl)) ≡ mine → (mine ≡ true → plan ≡ pl)
          → (trail₁ : List ℤ) (plan₁ page₁ : List ℕ) (t₁ : ℕ) → length trail₁ ≡ 225 → take ((suc i + 1) * 9) trail₁ ≡ take ((suc i + 1) * 9) (trod cs vs i v trail) → length plan₁ ≡ 24 → take (suc i) plan₁ ≡ take (suc i) (set plan i v)
          → length page₁ ≡ length page → t₁ ≤ suc cap
          → Finds n m w (sets_in vs) (weights_in cs) (leasts_in cs) (mosts_in cs) (coefs_in cs) (values_in vs) bs ks mine (suc i) (byte v - 1) (totals_at (suc i) (trod cs vs i v trail)) (budget_at (suc i) (trod cs vs i v trail)) (set plan i v) cap page t page₁ t₁
          → Pace trail₁ plan₁ page₁ t₁ (v + 1)
      pace_on h e mine em whole trail₁ plan₁ page₁ t₁ tl tu pl24 pb long few₁ found =
          let n24 = g.slots_few in
          let ok = both (opens_at v) (keeps_at v) (sym (goes_same h) ∙ e) in
          let f = rw (trod_totals cs vs i v trail (omega arith) p.trail_long here_eight, trod_budget cs vs i v trail (omega arith) p.trail_long here_eight, here_same, rest_same, sym em) at found in
          record {
            page_long = long ∙ p.page_long;
            plan_long = pl24;
            trail_long = tl;
            begun = still i plan₁ (set plan i v) pb ∙ take-set-le i plan i v (omega arith) ∙ p.begun;
            under = below i trail₁ (trod cs vs i v trail) tu ∙ trod_below cs vs i v trail (omega arith) p.trail_long here_eight ∙ p.under;
            few = few₁;
            goes = going_on n m w (sets_in vs) (weights_in cs) (leasts_in cs) (mosts_in cs) (coefs_in cs) (values_in vs) bs ks own i j (totals_at i tr) (budget_at i tr) pl cap pg seen g hi hj eight v hv (first_of own (drop i pl)) refl plan p.plan_long p.begun (λ e. whole (sym em ∙ e)) page t page₁ t₁ ok.0 ok.1 f p.goes;
          }

      -- at the sink: the plan is laid, unless it is the start itself
      pub pace_last : 0 < byte v → goes_on m cs vs i v ks (child v) trail ≡ true → (mine : Bool) → own && eqb v (first_of own (drop i pl)) ≡ mine → (mine ≡ true → plan ≡ pl) → suc i ≡ n
          → (page₁ : List ℕ) (t₁ : ℕ) → length page₁ ≡ length page → t₁ ≤ suc cap
          → record { page = page₁; seen = t₁ } ≡ cond mine (record { page = page; seen = t }) (laying n cap (record { page = page; seen = t }) (take n (set plan i v)))
          → Pace (trod cs vs i v trail) (set plan i v) page₁ t₁ (v + 1)
      pace_last h e mine em whole last page₁ t₁ long few₁ laid =
          let n24 = g.slots_few in
          pace_on h e mine em whole (trod cs vs i v trail) (set plan i v) page₁ t₁ (trod_long cs vs i v trail (omega arith) p.trail_long here_eight) refl (length-set plan i v ∙ p.plan_long) refl long few₁
          (sink_leaf n m w (sets_in vs) (weights_in cs) (leasts_in cs) (mosts_in cs) (coefs_in cs) (values_in vs) bs ks mine (suc i) (byte v - 1) (totals_at (suc i) (trod cs vs i v trail)) (budget_at (suc i) (trod cs vs i v trail)) (set plan i v) cap page t g last page₁ t₁ laid)
