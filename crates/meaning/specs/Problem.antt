-- What does a plan file say, within which ranges, and which campaign is that?
use Rattle.std.specs.Prelude.{List, [], ◌∷◌, map, Bool, not, ◌&&◌, cond, ℕ, ◌/◌, ◌^◌, eqb, ltb, leb, length, get_or, ℤ, pos, neg_ℤ, ◌*ℤ◌}
use Rattle.std.specs.Int.Signed.{le_z}
use Rattle.laws.specs.Lists.{every}
use Rattle.meaning.specs.Plan.{Rule, Campaign, bit}

-- ---- the paper's greatest numbers
-- "a rate step, 0 to 7"
abbrev pub step_count : ℕ
step_count = 8

-- "n, 1 to 24"
abbrev pub most_slots : ℕ
most_slots = 24

-- "m, the number of rules, 0 to 8"
abbrev pub most_rules : ℕ
most_rules = 8

-- "width outside 1 to 16" is refused
abbrev pub most_width : ℕ
most_width = 16

-- "rounds above 64" are refused
abbrev pub most_rounds : ℕ
most_rounds = 64

-- of the ceiling and of every running number
abbrev pub limit : ℕ
limit = 2000000

-- ---- a problem
-- what a rule counts: the value set S over a set of slots (kind 1, among), or a coefficient for each slot (kind 2, sum)
pub data Terms : Type 0 where
  among : ℕ → ℕ → Terms
  sums : List ℤ → Terms

-- a rule as a file has it. Version 1 has no lead-in: it is zero
pub record Said : Type 0 where
  pub terms : Terms
  pub lb : ℤ
  pub ub : ℤ
  pub lead : ℤ

-- n step sets, n weights, m rules
pub record Problem : Type 0 where
  pub sets : List ℕ
  pub weights : List ℤ
  pub rules : List Said

-- ---- its campaign: the one place that looks at kinds, weights and lead-ins
-- a number of slot i "times step": "weight times step", "coefficient times v"
abbrev pub weighed : List ℤ → ℕ → ℕ → ℤ
weighed w i v = get_or w i (pos 0) *ℤ pos v

-- "1 or 0 (among) or coefficient times v (sum)"
abbrev pub share_of : Terms → ℕ → ℕ → ℤ
share_of (among s t) i v = cond (bit s v && bit t i) (pos 1) (pos 0)
share_of (sums c) i v = weighed c i v

-- a rule as the theorems see it; its total starts with the lead-in
abbrev pub rule_of : Said → Rule
rule_of r = record { share = share_of r.terms; lb = r.lb; ub = r.ub; start = r.lead }

-- the campaign of a problem
abbrev pub campaign : Problem → Campaign
campaign p = record { steps = step_count; sets = p.sets; price = weighed p.weights; rules = map rule_of p.rules }

-- ---- the ranges
-- the format of a file version: the bytes of a set, the greatest size of a weight, a coefficient and a bound, the bytes of a lead-in and its greatest size
pub record Format : Type 0 where
  pub version : ℕ
  pub set_bytes : ℕ
  pub weight : ℕ
  pub coefficient : ℕ
  pub bound : ℕ
  pub lead_bytes : ℕ
  pub among_lead : ℕ
  pub sum_lead : ℕ

-- "the version, 1": weights to 10,000, coefficients to 1,000, bounds to 200,000
abbrev pub version1 : Format
version1 = record { version = 1; set_bytes = 1; weight = 10000; coefficient = 1000; bound = 200000; lead_bytes = 0; among_lead = 0; sum_lead = 0 }

-- −m ≤ z ≤ m
abbrev pub size : ℕ → ℤ → Bool
size m z = le_z (neg_ℤ (pos m)) z && le_z z (pos m)

-- "n, 1 to 24", "m, the number of rules, 0 to 8"
abbrev pub right_head : ℕ → ℕ → Bool
right_head n m = leb 1 n && leb n most_slots && leb m most_rules

-- "never zero"
abbrev pub right_set : ℕ → Bool
right_set s = not (eqb s 0)

-- "bits at n and above zero"; coefficients "−1,000 to 1,000"
abbrev pub right_terms : Format → ℕ → Terms → Bool
right_terms f n (among s t) = eqb (t / 2 ^ n) 0
right_terms f n (sums c) = every (size f.coefficient) c

-- a lead-in of its own range; version 1 has none but zero
abbrev pub right_lead : Format → Terms → ℤ → Bool
right_lead f (among s t) z = le_z (pos 0) z && le_z z (pos f.among_lead)
right_lead f (sums c) z = size f.sum_lead z

-- "For both, −200,000 ≤ lb ≤ ub ≤ 200,000"
abbrev pub right_rule : Format → ℕ → Said → Bool
right_rule f n r =
    right_terms f n r.terms && size f.bound r.lb && size f.bound r.ub && le_z r.lb r.ub && right_lead f r.terms r.lead

-- "given exactly when no earlier fault stands": the number of the first fault that does, 0 for none
abbrev pub first_fault : List (ℕ × Bool) → ℕ
first_fault [] = 0
first_fault (f ∷ fs) = cond f.1 f.0 (first_fault fs)

-- 4, "n or m outside its range"; 5, "a step set is zero or a weight outside its range"; 6, "a field outside its range, or lb above ub"
abbrev pub fault_of : Format → Problem → ℕ
fault_of f p =
    let n = length p.sets in
    let right4 = right_head n (length p.rules) in
    let right5 = every right_set p.sets && every (size f.weight) p.weights in
    let right6 = every (right_rule f n) p.rules in
    first_fault ((4, not right4) ∷ (5, not right5) ∷ (6, not right6) ∷ [])

-- the format has bytes for it: the sets and S fit, and there is a weight, and a coefficient, for each slot
abbrev pub holds_terms : Format → ℕ → Terms → Bool
holds_terms f n (among s t) = ltb s (256 ^ f.set_bytes)
holds_terms f n (sums c) = eqb (length c) n

-- the whole problem
abbrev pub holds_all : Format → Problem → Bool
holds_all f p =
    let n = length p.sets in
    every (λ s. ltb s (256 ^ f.set_bytes)) p.sets && eqb (length p.weights) n && every (λ r. holds_terms f n r.terms) p.rules

-- a problem in range
abbrev pub in_range : Format → Problem → Bool
in_range f p = eqb (fault_of f p) 0 && holds_all f p
