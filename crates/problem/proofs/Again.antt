-- Does a problem that a file says come back from its form by value, without a fault?
use mathlib.Core.Path.{◌≡◌, refl, sym, ap, ◌∙◌}
use mathlib.Core.List.{List, [], ◌∷◌, map}
use mathlib.Core.Bool.{Bool, true, not, ◌&&◌}
use Prim.Native.Nat.{ℕ, ◌*◌, ◌≤◌, ◌<◌}
use native.Mathlib.Omega.{arith}
use lib.ListN.{length, get_or, take, drop, length-map}
use lib.IntN.{ℤ, pos}
use Rattle.laws.specs.Z.{zarith, parts}
use Rattle.laws.specs.Lists.{every, padded}
use Rattle.laws.proofs.Lists.{get_or_map}
use Rattle.laws.proofs.Each.{Each, each_at, each_every}
use Rattle.laws.proofs.Filled.{take-padded, get_or-padded, map_places, every_places}
use Rattle.laws.proofs.Parts.{length_fields}
use Rattle.meaning.specs.Problem.{among, sums, Said, Format, version1, size, right_head, right_set, right_rule, first_fault, fault_of}
use Rattle.meaning.specs.Problem as paper
use Rattle.meaning.specs.File.{got, read_of, little, signed}
use Rattle.meaning.proofs.Faultless.{range_test, nonzero_test, each_size, RightLead, RightFields, fields_test}
use Rattle.meaning.proofs.Table.{Known, known1, slot_count, rule_count, sets_in, behind_sets, weights_in, problem_in, Kind, kind_among, kind_sum, Rules, no_rules, rule_first, RulesRight, Accepted, accepted}
use Rattle.meaning.proofs.Rows.{accepted_when}
use Rattle.problem.specs.declared.Terms.TheVariants.{Neither}
use Rattle.problem.specs.Held.{said_terms, said_at, said, no_bounds, right_kind, right_at, fault_in, terms_of, bounds_of, held}

-- ---- what the form by value has room for
-- a coefficient for each slot
abbrev pub FitsTerms : ℕ → paper.Terms → Type 0
FitsTerms n (among s t) = Unit {0}
FitsTerms n (sums c) = length c ≡ n

pub record FitsRule (n : ℕ) (r : Said) : Type 0 where
  -- n coefficients of a sum
  pub terms : FitsTerms n r.terms
  -- there is no lead-in
  pub lead : r.lead ≡ pos 0

pub record Fits (q : paper.Problem) : Type 0 where
  -- "n, 1 to 24"
  pub slots : length q.sets ≤ 24
  -- a weight for each slot
  pub weights : length q.weights ≡ length q.sets
  -- "m, the number of rules, 0 to 8"
  pub count : length q.rules ≤ 8
  -- each of them
  pub rules : Each (FitsRule (length q.sets)) q.rules

-- ---- one rule
-- what a place past the last rule is taken for: it fits any n
abbrev no_rule : Said
no_rule = record { terms = among 0 0; lb = pos 0; ub = pos 0; lead = pos 0 }

known_kind : (t : paper.Terms) → right_kind (terms_of t) ≡ true
known_kind (among s t) = refl
known_kind (sums c) = refl

terms_again : (n : ℕ) (t : paper.Terms) → n ≤ 24 → FitsTerms n t → said_terms n (terms_of t) ≡ t
terms_again n (among s t) h e = refl
terms_again n (sums c) h e = rw (← e) (ap sums (take-padded (pos 0) 24 c (rw e h)))

module _ (q : paper.Problem) (fits : Fits q) where
  abbrev n : ℕ
  n = length q.sets

  abbrev rs : List Said
  rs = q.rules

  module _ (k : ℕ) (h : k < length rs) where
    abbrev r : Said
    r = get_or rs k no_rule

    -- its terms, its bounds
    field : {A : Type 0} (g : Said → A) (z : A) → get_or (padded 8 z (map g rs)) k z ≡ g r
    field g z = get_or-padded 8 (map g rs) k z (omega (arith, length-map rs g, fits.count)) ∙ get_or_map g rs k no_rule z h

    terms : get_or (held q).terms k Neither ≡ terms_of r.terms
    terms = field (λ x. terms_of x.terms) Neither

    bounds : get_or (held q).bounds k no_bounds ≡ bounds_of r
    bounds = field bounds_of no_bounds

    rule_fits : FitsRule n r
    rule_fits = each_at (FitsRule n) rs k no_rule (record { terms = tt; lead = refl }) fits.rules

    said_again : said_terms n (get_or (held q).terms k Neither) ≡ r.terms
    said_again = ap (said_terms n) terms ∙ terms_again n r.terms fits.slots rule_fits.terms

    rule_again : said_at (held q) k ≡ r
    rule_again = λ i. record { terms = said_again i; lb = (bounds i).lb; ub = (bounds i).ub; lead = sym rule_fits.lead i }

    test_again : (f : Format) → right_at f (held q) k ≡ right_rule f n r
    test_again f = (λ i. right_kind (terms i) && right_rule f n (rule_again i)) ∙ ap (λ (b : Bool). b && right_rule f n r) (known_kind r.terms)

  -- ---- the whole problem
  sets_again : (said (held q)).sets ≡ q.sets
  sets_again = take-padded 0 24 q.sets fits.slots

  weights_again : (said (held q)).weights ≡ q.weights
  weights_again = rw (← fits.weights) (take-padded (pos 0) 24 q.weights (rw fits.weights fits.slots))

  pub said-held : said (held q) ≡ q
  said-held = λ i. record { sets = sets_again i; weights = weights_again i; rules = map_places (said_at (held q)) rs no_rule rule_again i }

  -- its faults are the same
  pub held_faults : (f : Format) → fault_in f (held q) ≡ fault_of f q
  held_faults f =
      let tests = every_places (right_at f (held q)) (right_rule f n) rs no_rule (λ k h. test_again k h f) in
      (λ i. first_fault ((4, not (right_head n (length rs))) ∷ (5, not (every right_set (sets_again i) && every (size f.weight) (weights_again i))) ∷ (6, not (tests i)) ∷ []))

  pub held_faultless : fault_of version1 q ≡ 0 → fault_in version1 (held q) ≡ 0
  held_faultless e = held_faults version1 ∙ e

-- ---- a file
-- no version has a lead-in other than zero
lead_zero : {f : Format} → Known f → (t : paper.Terms) (z : ℤ) → RightLead f t z → z ≡ pos 0
lead_zero known1 (among s t) z h = omega (zarith, parts z, h.0, h.1)
lead_zero known1 (sums c) z h = omega (zarith, parts z, h.size)

module _ {f : Format} (known : Known f) (n : ℕ) where
  -- what a body says has n coefficients
  body_fits : {k l : ℕ} {g : List ℕ → Said} → Kind f n k l g → (b : List ℕ) → FitsTerms n (g b).terms
  body_fits kind_among b = tt
  body_fits kind_sum b = length_fields (signed 2) n 2 b

  -- m rules, and what is true of each
  record RulesFit (m : ℕ) (rs : List Said) : Type 0 where
    count : length rs ≡ m
    room : Each (FitsRule n) rs
    right : Each (RightFields f n) rs

  rules_fit : {m : ℕ} {t u : List ℕ} {rs : List Said} → Rules f n m t rs u → RulesFit m rs
  rules_fit no_rules = record { count = refl; room = tt; right = tt }
  rules_fit (rule_first {l = l} {g = g} {t = t} d h e rs) =
      let rest = rules_fit rs in
      let r = g (take l t) in
      record { count = rw rest.count; room = (record { terms = body_fits d (take l t); lead = lead_zero known r.terms r.lead e.lead }, rest.room); right = (e, rest.right) }

module _ (s : List ℕ) {f : Format} {rs : List Said} (known : Known f) (r : RulesRight s f (rule_count s) rs []) where
  abbrev q : paper.Problem
  q = problem_in s f rs

  set_count : length (sets_in s f) ≡ slot_count s
  set_count = length_fields little (slot_count s) f.set_bytes (take (slot_count s * f.set_bytes) (drop 7 s))

  weight_count : length (weights_in s f) ≡ slot_count s
  weight_count = length_fields (signed 4) (slot_count s) 4 (take (slot_count s * 4) (behind_sets s f))

  abbrev all : RulesFit known (slot_count s) (rule_count s) rs
  all = rules_fit known (slot_count s) r.rules

  file_fits : Fits q
  file_fits =
      let h = r.weights.sets.head.range in
      record {
        slots = rw set_count h.most;
        weights = weight_count ∙ sym set_count;
        count = rw all.count h.rules;
        rules = rw set_count all.room;
      }

  file_faultless : fault_of f q ≡ 0
  file_faultless =
      let n = slot_count s in
      rw (
        set_count,
        all.count,
        range_test r.weights.sets.head.range,
        nonzero_test (sets_in s f) r.weights.sets.allowing,
        each_size f.weight (weights_in s f) r.weights.range,
        each_every (right_rule f n) (RightFields f n) (fields_test f n) rs all.right,
      )

-- any accepted file, and its elements need not be bytes
pub accepted_held : (s : List ℕ) (q : paper.Problem) (t : List ℕ) → read_of s ≡ got q t → (said (held q) ≡ q) × (fault_in version1 (held q) ≡ 0)
accepted_held s q t e = go ((accepted_when s q t).0 e).0
  where
    first : {f : Format} {rs : List Said} → Known f → RulesRight s f (rule_count s) rs []
        → let p = problem_in s f rs in (said (held p) ≡ p) × (fault_in version1 (held p) ≡ 0)
    first {rs = rs} known1 r =
        let p = problem_in s version1 rs in
        let fits = file_fits s known1 r in
        (said-held p fits, held_faultless p fits (file_faultless s known1 r))

    go : {p : paper.Problem} → Accepted s p → (said (held p) ≡ p) × (fault_in version1 (held p) ≡ 0)
    go (accepted r) = first r.weights.sets.head.known r
