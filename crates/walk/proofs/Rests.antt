-- Which rests does a beginning of a plan lead to: at the end, at a node step by step, and from the source?
use mathlib.Core.Path.{◌≡◌, refl, sym, ap, ◌∙◌}
use mathlib.Core.List.{List, [], ◌∷◌, ◌++◌, map}
use mathlib.Core.Bool.{Bool, true, false, ◌&&◌, cond}
use Prim.Native.Nat.{ℕ, zero, suc, ◌-◌, ◌≤◌, ◌<◌}
use native.Mathlib.Nat.{zero-add}
use native.Mathlib.Decide.{dec_lt}
use native.Mathlib.Omega.{arith}
use borrow.Author.Tests.{lt-ltb, le-ltb, eq-eqb, ne_eqb}
use lib.Dec.{eqb}
use lib.ListN.{length, get_or, drop, replicate, length-drop, drop_of_length-le}
use lib.Seq.{drop-cons}
use lib.IntN.{ℤ, pos, ◌+ℤ◌, ◌-ℤ◌}
use lib.Signed.{le_z}
use Rattle.laws.specs.Z.{zarith, sum, dif, assoc}
use Rattle.laws.specs.Lists.{keep, every, gather, from}
use Rattle.laws.proofs.Lists.{keep_agree, keep_none, keep_both, keep-gather, gather-keep, keep-map, gather-from, gather_skip}
use Rattle.laws.proofs.Each.{Each, each_more, each_keep, keep_each}
use Rattle.meaning.specs.Plan.{Rule, Campaign, slots, bit, allowed, summed, total, keeps_rule, lawful, cost, plans, after}
use Rattle.meaning.specs.Diagram.{Arcs}
use Rattle.meaning.specs.Filter.{on_path, swept}
use Rattle.meaning.specs.Bound.{is_path, arc_at}
use Rattle.meaning.specs.Page.{wanted, listed, walked}
use Rattle.meaning.proofs.Order.{allowed_length, plans_allowed, plans_long}
use Rattle.meaning.proofs.Walks.{fewer_walks}
use Rattle.meaning.proofs.Drops.{drops_fewer}
use Rattle.meaning.proofs.Keeps.{dropped}
use Rattle.walk.specs.Beginnings.{keeps_from, fits, behind, rests, first_of}

-- ---- the rests step by step
-- each rule's total with its share of slot i and step v
abbrev pub added : List Rule → ℕ → ℕ → List ℤ → List ℤ
added [] i v ts = []
added (r ∷ rs) i v [] = []
added (r ∷ rs) i v (t ∷ ts) = (t +ℤ r.share i v) ∷ added rs i v ts

-- the rests that begin with step v: along its arc, if the slot allows it
abbrev pub onto : Campaign → Arcs → ℕ → List ℤ → ℤ → Bool → List ℕ → ℕ → ℕ → List (List ℕ)
onto q a i ts c own s v zero = []
onto q a i ts c own s v (suc k) =
    let rest = rests q a (suc i) k (added q.rules i v ts) (c -ℤ q.price i v) (own && eqb v (first_of own s)) (drop 1 s) in
    map (λ p. v ∷ p) rest

abbrev pub step_rests : Campaign → Arcs → ℕ → ℕ → List ℤ → ℤ → Bool → List ℕ → ℕ → List (List ℕ)
step_rests q a i j ts c own s v = cond (bit (get_or q.sets i 0) v) (onto q a i ts c own s v (arc_at a i j v)) []

-- of the steps from v on, k of them
abbrev pub from_step : Campaign → Arcs → ℕ → ℕ → List ℤ → ℤ → Bool → List ℕ → ℕ → ℕ → List (List ℕ)
from_step q a i j ts c own s v k = gather (step_rests q a i j ts c own s) (from v k)

-- ---- a step, and the rest behind it
-- each rule's total with the share of the step, and then what the rest adds
keeps_step : (rs : List Rule) (i v : ℕ) (ts : List ℤ) (p : List ℕ) → keeps_from rs i ts (v ∷ p) ≡ keeps_from rs (suc i) (added rs i v ts) p
keeps_step [] i v ts p = refl
keeps_step (r ∷ rs) i v [] p = refl
keeps_step (r ∷ rs) i v (t ∷ ts) p = rw (← assoc t (r.share i v) (total r (suc i) p), keeps_step rs i v ts p) refl

-- the price of the step is paid from the ceiling
price_step : (x y c : ℤ) → le_z (x +ℤ y) c ≡ le_z y (c -ℤ x)
price_step x y c = go (le_z (x +ℤ y) c) (le_z y (c -ℤ x)) refl refl
  where
    go : (s t : Bool) → le_z (x +ℤ y) c ≡ s → le_z y (c -ℤ x) ≡ t → s ≡ t
    go true true d e = refl
    go false false d e = refl
    go true false d e = absurd (omega (zarith, sum x y, dif c x))
    go false true d e = absurd (omega (zarith, sum x y, dif c x))

module _ (q : Campaign) (i j : ℕ) (ts : List ℤ) (c : ℤ) (l : List (List ℕ)) (ls : Arcs) (v : ℕ) where
  -- no arc: no rest fits
  fits_none : (p : List ℕ) → get_or (get_or l j []) v 0 ≡ 0 → fits q i (l ∷ ls) j ts c (v ∷ p) ≡ false
  fits_none p e = rw e

  -- along the arc
  fits_step : (k : ℕ) (p : List ℕ) → get_or (get_or l j []) v 0 ≡ suc k
      → fits q i (l ∷ ls) j ts c (v ∷ p) ≡ fits q (suc i) ls k (added q.rules i v ts) (c -ℤ q.price i v) p
  fits_step k p e = rw (e, keeps_step q.rules i v ts p, price_step (q.price i v) (summed q.price (suc i) p) c) refl

-- a step below the start's, and one above
after_below : (u v : ℕ) (s p : List ℕ) → v < u → after (u ∷ s) (v ∷ p) ≡ false
after_below u v s p h = rw (le-ltb u v (omega arith), ne_eqb u v (λ e. omega arith))

after_above : (u v : ℕ) (s p : List ℕ) → u < v → after (u ∷ s) (v ∷ p) ≡ true
after_above u v s p h = rw (lt-ltb u v h)

-- "after the start" of a step and its rest, where the step is not below the first
behind_step : (own : Bool) (s : List ℕ) (v : ℕ) (p : List ℕ) → 0 < length s → first_of own s ≤ v → behind own s (v ∷ p) ≡ behind (own && eqb v (first_of own s)) (drop 1 s) p
behind_step false s v p n h = refl
behind_step true [] v p n h = absurd (omega arith)
behind_step true (u ∷ s) v p n h = elim (dec_lt u v) [
  | yes b ↦ rw (ne_eqb v u (λ e. omega arith)) (after_above u v s p b)
  | no f ↦ let e : v ≡ u = omega arith in rw (e, le-ltb u u (omega arith), eq-eqb u u refl)
]

behind_none : (own : Bool) (s : List ℕ) (v : ℕ) (p : List ℕ) → 0 < length s → v < first_of own s → behind own s (v ∷ p) ≡ false
behind_none false s v p n h = absurd (omega arith)
behind_none true [] v p n h = absurd (omega arith)
behind_none true (u ∷ s) v p n h = after_below u v s p h

-- ---- at a node
module _ (q : Campaign) (a : Arcs) (i j : ℕ) (ts : List ℤ) (c : ℤ) (own : Bool) (s : List ℕ) where
  -- all rests that begin with step v: of the plans over the later sets those that fit behind it, after the start
  abbrev along_step : ℕ → List (List ℕ)
  along_step v = keep (behind own s) (keep (fits q i (drop i a) j ts c) (map (λ p. v ∷ p) (plans q.steps (drop (suc i) q.sets))))

  abbrev fit_behind : ℕ → List (List ℕ)
  fit_behind v = keep (λ p. behind own s (v ∷ p)) (keep (λ p. fits q i (drop i a) j ts c (v ∷ p)) (plans q.steps (drop (suc i) q.sets)))

  along_is : (v : ℕ) → along_step v ≡ map (λ p. v ∷ p) (fit_behind v)
  along_is v =
      let rest = plans q.steps (drop (suc i) q.sets) in
      ap (keep (behind own s)) (keep-map (fits q i (drop i a) j ts c) (λ p. v ∷ p) rest)
      ∙ keep-map (behind own s) (λ p. v ∷ p) (keep (λ p. fits q i (drop i a) j ts c (v ∷ p)) rest)

  -- below the first step none
  step_none : (v : ℕ) → 0 < length s → v < first_of own s → along_step v ≡ []
  step_none v n h =
      along_is v ∙ ap (map (λ p. v ∷ p)) (keep_none (λ p. behind own s (v ∷ p)) (keep (λ p. fits q i (drop i a) j ts c (v ∷ p)) (plans q.steps (drop (suc i) q.sets))) (λ p. behind_none own s v p n h))

  -- from it on those along the step's arc
  step_some : (v : ℕ) → i < length a → 0 < length s → first_of own s ≤ v → along_step v ≡ onto q a i ts c own s v (arc_at a i j v)
  step_some v b n h = along_is v ∙ go (arc_at a i j v) refl
    where
      l : List (List ℕ)
      l = get_or a i []

      here : drop i a ≡ l ∷ drop (suc i) a
      here = drop-cons a i [] b

      rest : List (List ℕ)
      rest = plans q.steps (drop (suc i) q.sets)

      go : (k : ℕ) → arc_at a i j v ≡ k → map (λ p. v ∷ p) (fit_behind v) ≡ onto q a i ts c own s v k
      go zero e =
          let none : keep (λ p. fits q i (drop i a) j ts c (v ∷ p)) rest ≡ [] = keep_none (λ p. fits q i (drop i a) j ts c (v ∷ p)) rest (λ p. rw here (fits_none q i j ts c l (drop (suc i) a) v p e)) in
          rw none
      go (suc k) e =
          let now : List ℕ → Bool = λ p. fits q i (drop i a) j ts c (v ∷ p) in
          let then : List ℕ → Bool = fits q (suc i) (drop (suc i) a) k (added q.rules i v ts) (c -ℤ q.price i v) in
          let some : keep now rest ≡ keep then rest = keep_agree now then rest (λ p m. rw here (fits_step q i j ts c l (drop (suc i) a) v k p e)) in
          ap (map (λ p. v ∷ p)) (ap (keep (λ p. behind own s (v ∷ p))) some ∙ keep_agree (λ p. behind own s (v ∷ p)) (behind (own && eqb v (first_of own s)) (drop 1 s)) (keep then rest) (λ p m. behind_step own s v p n h))

  -- the rests step by step, from the first step on
  pub rests_node : q.steps ≡ 8 → i < slots q → length a ≡ slots q → length ts ≡ length q.rules → 0 < length s
      → rests q a i j ts c own s ≡ from_step q a i j ts c own s (first_of own s) (8 - first_of own s)
  rests_node eight b la lt n =
      let set = get_or q.sets i 0 in
      let first = first_of own s in
      let led : ℕ → List (List ℕ) = λ v. map (λ p. v ∷ p) (plans q.steps (drop (suc i) q.sets)) in
      let made : ℕ → List (List ℕ) = λ v. cond (bit set v) (along_step v) [] in
      let of : List (List ℕ) → List (List ℕ) = λ ps. keep (behind own s) (keep (fits q i (drop i a) j ts c) ps) in
      ap (λ ss. of (plans q.steps ss)) (drop-cons q.sets i 0 b)
      ∙ ap (λ k. of (gather led (keep (bit set) (from 0 k)))) eight
      ∙ ap (keep (behind own s)) (keep-gather (fits q i (drop i a) j ts c) led (keep (bit set) (from 0 8)))
      ∙ keep-gather (behind own s) (λ v. keep (fits q i (drop i a) j ts c) (led v)) (keep (bit set) (from 0 8))
      ∙ gather-keep (bit set) along_step (from 0 8)
      ∙ gather_skip made 8 first 0 (λ v h. none_made (bit set v) v (step_none v n (rw zero-add at h)))
      ∙ ap (λ v. gather made (from v (8 - first))) (zero-add first)
      ∙ gather-from made (step_rests q a i j ts c own s) (8 - first) first (λ v h. ap (λ (r : List (List ℕ)). cond (bit set v) r []) (step_some v (omega arith) n h))
    where
      none_made : (t : Bool) (v : ℕ) → along_step v ≡ [] → cond t (along_step v) [] ≡ []
      none_made true v e = e
      none_made false v e = refl

  -- one step, and those behind it; no step is left
  pub from_next : (v : ℕ) → v < 8 → from_step q a i j ts c own s v (8 - v) ≡ step_rests q a i j ts c own s v ++ from_step q a i j ts c own s (suc v) (8 - suc v)
  from_next v h = let o : 8 - v ≡ suc (8 - suc v) = omega arith in rw o refl

  pub from_end : (v : ℕ) → 8 ≤ v → from_step q a i j ts c own s v (8 - v) ≡ []
  from_end v h = let o : 8 - v ≡ 0 = omega arith in rw o refl

-- ---- at the sink: the empty rest, where it is after the start
pub rests_end : (q : Campaign) (a : Arcs) (i j : ℕ) (ts : List ℤ) (c : ℤ) (own : Bool) → i ≡ slots q → length a ≡ slots q → fits q i [] j ts c [] ≡ true
    → rests q a i j ts c own [] ≡ cond own [] ([] ∷ [])
rests_end q a i j ts c own e l h =
    let no_sets : drop i q.sets ≡ [] = drop_of_length-le q.sets {i = i} (omega arith) in
    let no_arcs : drop i a ≡ [] = drop_of_length-le a {i = i} (omega arith) in
    rw (no_sets, no_arcs, h) (go own)
  where
    go : (b : Bool) → keep (behind b []) ([] ∷ []) ≡ cond b [] ([] ∷ [])
    go true = refl
    go false = refl

-- ---- a rest has a step for each set
pub rests_long : (q : Campaign) (a : Arcs) (i j : ℕ) (ts : List ℤ) (c : ℤ) (own : Bool) (s : List ℕ) → Each (λ p. length p ≡ slots q - i) (rests q a i j ts c own s)
rests_long q a i j ts c own s =
    let all = plans q.steps (drop i q.sets) in
    let all_long : Each (λ p. length p ≡ slots q - i) all = rw (length-drop i q.sets) at (plans_long q.steps (drop i q.sets)) in
    each_keep (λ p. length p ≡ slots q - i) (behind own s) (keep (fits q i (drop i a) j ts c) all)
    (each_keep (λ p. length p ≡ slots q - i) (fits q i (drop i a) j ts c) all all_long)

-- ---- the whole walk, from the source
-- from zero on, a rest keeps the rules as a plan does
keeps_all : (rs : List Rule) (p : List ℕ) → Each (λ r. r.start ≡ pos 0) rs → keeps_from rs 0 (replicate (length rs) (pos 0)) p ≡ every (keeps_rule p) rs
keeps_all [] p h = refl
keeps_all (r ∷ rs) p h = rw (h.0, keeps_all rs p h.1) refl

in_order : (b w k c : Bool) → (b && (w && (k && c))) ≡ (w && ((c && b) && k))
in_order false false k c = refl
in_order false true k true = refl
in_order false true k false = refl
in_order true false k c = refl
in_order true true true true = refl
in_order true true true false = refl
in_order true true false true = refl
in_order true true false false = refl

walked_as : (q : Campaign) (a : Arcs) (c : ℤ) (own : Bool) (s t : List ℕ) → Each (λ r. r.start ≡ pos 0) q.rules
    → Each (λ p. (behind own s p ≡ after t p) × (allowed q.steps q.sets p ≡ true)) (plans q.steps q.sets)
    → rests q a 0 0 (replicate (length q.rules) (pos 0)) c own s ≡ walked a q c t
walked_as q a c own s t z h =
    let all = plans q.steps q.sets in
    let now : List ℕ → Bool = fits q 0 a 0 (replicate (length q.rules) (pos 0)) c in
    keep_both (behind own s) now all
    ∙ keep_each (λ p. behind own s p && now p) (λ p. is_path a p && (wanted q c t p && lawful q p)) all
    (each_more (λ p. (behind own s p ≡ after t p) × (allowed q.steps q.sets p ≡ true)) (λ p. (behind own s p && now p) ≡ (is_path a p && (wanted q c t p && lawful q p)))
    (λ p e. rw (e.0, e.1, keeps_all q.rules p z) (in_order (after t p) (is_path a p) (every (keeps_rule p) q.rules) (le_z (cost q p) c))) all h)
    ∙ sym (ap (keep (is_path a)) (keep_both (wanted q c t) (lawful q) all) ∙ keep_both (is_path a) (λ p. wanted q c t p && lawful q p) all)

module _ (q : Campaign) (a : Arcs) (c : ℤ) (zero_starts : Each (λ r. r.start ≡ pos 0) q.rules) (some : 0 < slots q) where
  -- with no start: every plan with a step is after none
  pub walked_all : (s : List ℕ) → rests q a 0 0 (replicate (length q.rules) (pos 0)) c false s ≡ walked a q c []
  walked_all s =
      walked_as q a c false s [] zero_starts
      (each_more (λ p. allowed q.steps q.sets p ≡ true) (λ p. (true ≡ after [] p) × (allowed q.steps q.sets p ≡ true)) (λ p e. (go p (allowed_length q.steps q.sets p e), e)) (plans q.steps q.sets) (plans_allowed q.steps q.sets))
    where
      go : (p : List ℕ) → length p ≡ slots q → true ≡ after [] p
      go [] e = absurd (omega arith)
      go (v ∷ p) e = refl

  -- after a start
  pub walked_behind : (s : List ℕ) → rests q a 0 0 (replicate (length q.rules) (pos 0)) c true s ≡ walked a q c s
  walked_behind s =
      walked_as q a c true s s zero_starts
      (each_more (λ p. allowed q.steps q.sets p ≡ true) (λ p. (after s p ≡ after s p) × (allowed q.steps q.sets p ≡ true)) (λ p e. (refl, e)) (plans q.steps q.sets) (plans_allowed q.steps q.sets))

-- ---- arcs on no path lead to no plan: swept or not, the walk finds the same
pub walked-swept : (q : Campaign) (a : Arcs) (c : ℤ) (s : List ℕ) → walked (swept q a) q c s ≡ walked a q c s
walked-swept q a c s = keep_agree (is_path (swept q a)) (is_path a) (listed q c s) (λ p m. go p (is_path (swept q a) p) (is_path a p) refl refl)
  where
    go : (p : List ℕ) (t u : Bool) → is_path (swept q a) p ≡ t → is_path a p ≡ u → is_path (swept q a) p ≡ is_path a p
    go p true u d e = d ∙ sym (fewer_walks (swept q a) a (drops_fewer on_path q a) 0 p d)
    go p false true d e = dropped on_path q a p tt e ∙ sym e
    go p false false d e = d ∙ sym e
