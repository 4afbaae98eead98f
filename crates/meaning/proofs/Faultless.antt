-- What does it say of a problem that it is in range? No fault stands, and the format has bytes for it: in words, where the definitions have tests.
use mathlib.Core.Path.{◌≡◌, refl, sym, subst}
use mathlib.Core.List.{List, [], ◌∷◌}
use mathlib.Core.Bool.{Bool, true, false, not, ◌&&◌, true≢false}
use Prim.Native.Nat.{ℕ, ◌*◌, ◌/◌, ◌^◌, ◌≤◌, ◌<◌}
use native.Mathlib.Nat.{div-lt_iff_lt-mul, div-eq_of_lt, one-le-pow}
use native.Mathlib.Omega.{arith}
use borrow.Author.Tests.{eqb-true, eq-eqb, leb-true, le-leb, not-false}
use lib.Dec.{eqb, ltb, leb}
use lib.ListN.{length}
use lib.IntN.{ℤ, pos, neg_ℤ}
use lib.Signed.{le_z, ◌≤ℤ◌}
use Rattle.laws.specs.Z.{zarith, neg, parts, Within}
use Rattle.laws.specs.Lists.{every}
use Rattle.laws.proofs.Lists.{and_l, and_r, and_both, no_false, In, every_in}
use Rattle.laws.proofs.Parts.{Fails, fails, every_no}
use Rattle.laws.proofs.Each.{Each, each_every, every_each}
use Rattle.meaning.specs.Plan.{slots}
use Rattle.meaning.specs.Problem.{most_slots, most_rules, Terms, among, sums, Said, Problem, campaign, Format, size, first_fault, right_head, right_set, right_terms, right_lead, right_rule, holds_terms, holds_all, fault_of, in_range}

-- ---- a size
pub within_size : (m : ℕ) (z : ℤ) → Within m z → size m z ≡ true
within_size m z h =
    let low : le_z (neg_ℤ (pos m)) z ≡ true = omega (zarith, neg (pos m), parts z, h.size) in
    let high : le_z z (pos m) ≡ true = omega (zarith, parts z, h.size) in
    and_both (le_z (neg_ℤ (pos m)) z) (le_z z (pos m)) low high

pub size_within : (m : ℕ) (z : ℤ) → size m z ≡ true → Within m z
size_within m z e =
    let low = and_l (le_z (neg_ℤ (pos m)) z) (le_z z (pos m)) e in
    let high = and_r (le_z (neg_ℤ (pos m)) z) (le_z z (pos m)) e in
    record { size = omega (zarith, neg (pos m), parts z) }

pub each_size : (m : ℕ) (l : List ℤ) → Each (Within m) l → every (size m) l ≡ true
each_size m l h = each_every (size m) (Within m) (within_size m) l h

pub size_each : (m : ℕ) (l : List ℤ) → every (size m) l ≡ true → Each (Within m) l
size_each m l e = every_each (size m) (Within m) (size_within m) l e

-- a size from zero on
pub rising_within : (m : ℕ) (z : ℤ) → (pos 0 ≤ℤ z) × (z ≤ℤ pos m) → Within m z
rising_within m z h = record { size = omega (zarith, parts z, h.0, h.1) }

-- ---- the head
pub record HeadRange (n m : ℕ) : Type 0 where
  -- "n, 1 to 24"
  pub some : 1 ≤ n
  -- the upper end of that range
  pub most : n ≤ most_slots
  -- "m, the number of rules, 0 to 8"
  pub rules : m ≤ most_rules

pub range_test : {n m : ℕ} → HeadRange n m → right_head n m ≡ true
range_test {n} {m} h = rw (le-leb 1 n h.some, le-leb n most_slots h.most, le-leb m most_rules h.rules)

pub test_range : (n m : ℕ) → right_head n m ≡ true → HeadRange n m
test_range n m e =
    let a = and_l (leb 1 n && leb n most_slots) (leb m most_rules) e in
    record { some = leb-true 1 n (and_l (leb 1 n) (leb n most_slots) a); most = leb-true n most_slots (and_r (leb 1 n) (leb n most_slots) a); rules = leb-true m most_rules (and_r (leb 1 n && leb n most_slots) (leb m most_rules) e) }

-- ---- the step sets: "never zero"
pub zero_in : {l : List ℕ} → Fails right_set l → In 0 l
zero_in {l} (fails {x = x} i e) = subst (λ (y : ℕ). In y l) (eqb-true x 0 (not-false (eqb x 0) e)) i

pub nonzero_test : (l : List ℕ) → (In 0 l → ⊥) → every right_set l ≡ true
nonzero_test l h = no_false (every right_set l) (λ e. h (zero_in (every_no right_set l e)))

pub test_nonzero : (l : List ℕ) → every right_set l ≡ true → In 0 l → ⊥
test_nonzero l e i = true≢false (sym (every_in right_set l e i))

-- ---- the fields of a rule
-- "bits at n and above zero"; coefficients "−1,000 to 1,000"
abbrev pub RightTerms : Format → ℕ → Terms → Type 0
RightTerms f n (among s t) = t < 2 ^ n
RightTerms f n (sums c) = Each (Within f.coefficient) c

-- a lead-in of its own range; version 1 has none but zero
abbrev pub RightLead : Format → Terms → ℤ → Type 0
RightLead f (among s t) z = (pos 0 ≤ℤ z) × (z ≤ℤ pos f.among_lead)
RightLead f (sums c) z = Within f.sum_lead z

-- no "field outside its range, or lb above ub"
pub record RightFields (f : Format) (n : ℕ) (r : Said) : Type 0 where
  -- the set of slots, or the coefficients
  pub terms : RightTerms f n r.terms
  -- "For both, −200,000 ≤ lb ≤ ub ≤ 200,000": lb within its range
  pub low : Within f.bound r.lb
  -- ub within its range
  pub high : Within f.bound r.ub
  -- lb not above ub
  pub order : r.lb ≤ℤ r.ub
  -- the lead-in
  pub lead : RightLead f r.terms r.lead

module _ (f : Format) (n : ℕ) where
  terms_test : (t : Terms) → RightTerms f n t → right_terms f n t ≡ true
  terms_test (among s t) h = eq-eqb (t / 2 ^ n) 0 (div-eq_of_lt h)
  terms_test (sums c) h = each_size f.coefficient c h

  test_terms : (t : Terms) → right_terms f n t ≡ true → RightTerms f n t
  test_terms (among s t) e =
      let z = eqb-true (t / 2 ^ n) 0 e in
      let b : t < 1 * 2 ^ n = (div-lt_iff_lt-mul {k = 2 ^ n} {x = t} {y = 1} (one-le-pow n 2 (omega arith))).0 (omega arith) in
      omega arith
  test_terms (sums c) e = size_each f.coefficient c e

  lead_test : (t : Terms) (z : ℤ) → RightLead f t z → right_lead f t z ≡ true
  lead_test (among s t) z h = and_both (le_z (pos 0) z) (le_z z (pos f.among_lead)) (omega (zarith, h.0)) (omega (zarith, h.1))
  lead_test (sums c) z h = within_size f.sum_lead z h

  test_lead : (t : Terms) (z : ℤ) → right_lead f t z ≡ true → RightLead f t z
  test_lead (among s t) z e =
      let low = and_l (le_z (pos 0) z) (le_z z (pos f.among_lead)) e in
      let high = and_r (le_z (pos 0) z) (le_z z (pos f.among_lead)) e in
      (omega zarith, omega zarith)
  test_lead (sums c) z e = size_within f.sum_lead z e

  pub fields_test : (r : Said) → RightFields f n r → right_rule f n r ≡ true
  fields_test r h =
      let order : le_z r.lb r.ub ≡ true = omega (zarith, h.order) in
      rw (terms_test r.terms h.terms, within_size f.bound r.lb h.low, within_size f.bound r.ub h.high, order, lead_test r.terms r.lead h.lead)

  pub test_fields : (r : Said) → right_rule f n r ≡ true → RightFields f n r
  test_fields r e =
      let a = right_terms f n r.terms in
      let b = size f.bound r.lb in
      let c = size f.bound r.ub in
      let d = le_z r.lb r.ub in
      let l = right_lead f r.terms r.lead in
      let abcd = and_l (a && b && c && d) l e in
      let abc = and_l (a && b && c) d abcd in
      let ab = and_l (a && b) c abc in
      let order = and_r (a && b && c) d abcd in
      record {
        terms = test_terms r.terms (and_l a b ab);
        low = size_within f.bound r.lb (and_r a b ab);
        high = size_within f.bound r.ub (and_r (a && b) c abc);
        order = omega zarith;
        lead = test_lead r.terms r.lead (and_r (a && b && c && d) l e);
      }

-- ---- the problem
pub record InRange (f : Format) (p : Problem) : Type 0 where
  -- n and m within their ranges
  pub head : HeadRange (length p.sets) (length p.rules)
  -- "never zero"
  pub sets : In 0 p.sets → ⊥
  -- no "weight outside its range"
  pub weights : Each (Within f.weight) p.weights
  -- no "field outside its range, or lb above ub"
  pub rules : Each (RightFields f (length p.sets)) p.rules
  -- the sets fit their bytes
  pub fit : every (λ s. ltb s (256 ^ f.set_bytes)) p.sets ≡ true
  -- there is a weight for each slot
  pub count : eqb (length p.weights) (length p.sets) ≡ true
  -- each S fits its bytes, or there is a coefficient for each slot
  pub held : every (λ r. holds_terms f (length p.sets) r.terms) p.rules ≡ true

-- the first fault is none: no test fails
pub no_fault : (a b c : Bool) → first_fault ((4, not a) ∷ (5, not b) ∷ (6, not c) ∷ []) ≡ 0 → (a ≡ true) × (b ≡ true) × (c ≡ true)
no_fault true true true e = (refl, refl, refl)
no_fault true true false e = absurd (omega arith)
no_fault true false c e = absurd (omega arith)
no_fault false b c e = absurd (omega arith)

pub in_range_lem : (f : Format) (p : Problem) → in_range f p ≡ true → InRange f p
in_range_lem f p e =
    let n = length p.sets in
    let a = every right_set p.sets in
    let b = every (size f.weight) p.weights in
    let c = every (λ s. ltb s (256 ^ f.set_bytes)) p.sets in
    let d = eqb (length p.weights) n in
    let h = every (λ (r : Said). holds_terms f n r.terms) p.rules in
    let ranges = no_fault (right_head n (length p.rules)) (a && b) (every (right_rule f n) p.rules) (eqb-true (fault_of f p) 0 (and_l (eqb (fault_of f p) 0) (holds_all f p) e)) in
    let holds = and_r (eqb (fault_of f p) 0) (c && d && h) e in
    let cd = and_l (c && d) h holds in
    record {
      head = test_range n (length p.rules) ranges.0;
      sets = test_nonzero p.sets (and_l a b ranges.1);
      weights = size_each f.weight p.weights (and_r a b ranges.1);
      rules = every_each (right_rule f n) (RightFields f n) (test_fields f n) p.rules ranges.2;
      fit = and_l c d cd;
      count = and_r c d cd;
      held = and_r (c && d) h holds;
    }

pub range_in : (f : Format) (p : Problem) → InRange f p → in_range f p ≡ true
range_in f p r =
    let n = length p.sets in
    rw (
      range_test r.head,
      nonzero_test p.sets r.sets,
      each_size f.weight p.weights r.weights,
      each_every (right_rule f n) (RightFields f n) (fields_test f n) p.rules r.rules,
      r.fit,
      r.count,
      r.held,
    )

-- it has a slot
pub some_slot : (f : Format) (p : Problem) → in_range f p ≡ true → 0 < slots (campaign p)
some_slot f p e = (in_range_lem f p e).head.some
