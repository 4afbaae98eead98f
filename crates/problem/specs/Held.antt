-- Which problem of the paper does a problem by value say, and which one by value does a problem of the paper become?
use Rattle.std.specs.Prelude.{◌≡◌, [], ◌∷◌, map, Bool, true, false, not, ◌&&◌, ℕ, ◌<◌, length, get_or, take, ℤ, pos, Option, Some, None, ⊤}
use Rattle.std.specs.Int.Signed.{le_z}
use Rattle.laws.specs.Lists.{every, from, padded}
use Rattle.laws.specs.Z.{Within}
use Rattle.meaning.specs.Plan.{Campaign}
use Rattle.meaning.specs.Problem.{most_slots, most_rules, among, sums, Said, Format, size, right_head, right_set, right_rule, first_fault, share_of, campaign}
use Rattle.meaning.specs.Problem as paper
use Rattle.refusal.specs.declared.Refusal.{Refusal}
use Rattle.refusal.specs.Refusals.{number_of}
use Rattle.problem.specs.declared.Problem.{Problem}
use Rattle.problem.specs.declared.Bounds.{Bounds}
use Rattle.problem.specs.declared.Terms.{Terms}
use Rattle.problem.specs.declared.Terms.TheVariants.{Among, Sum, Neither}

-- ---- what it says: entries below n and m alone
-- "1, among", "2, sum", of n coefficients; another kind counts nothing
abbrev pub said_terms : ℕ → Terms → paper.Terms
said_terms n (Among s t) = among s t
said_terms n (Sum c) = sums (take n c)
said_terms n Neither = sums []

-- a rule of its terms and bounds; there is no lead-in
abbrev pub rule_said : ℕ → Terms → Bounds → Said
rule_said n t b = record { terms = said_terms n t; lb = b.lb; ub = b.ub; lead = pos 0 }

-- what a place past the last rule has
abbrev pub no_bounds : Bounds
no_bounds = record { lb = pos 0; ub = pos 0 }

-- rule k
abbrev pub said_at : Problem → ℕ → Said
said_at p k = rule_said p.slots (get_or p.terms k Neither) (get_or p.bounds k no_bounds)

-- n step sets, n weights, m rules
abbrev pub said : Problem → paper.Problem
said p = record { sets = take p.slots p.sets; weights = take p.slots p.weights; rules = map (said_at p) (from 0 p.rules) }

-- its campaign
abbrev pub campaign_of : Problem → Campaign
campaign_of p = campaign (said p)

-- ---- its faults
-- lo ≤ z ≤ hi
abbrev pub between : ℤ → ℤ → ℤ → Bool
between lo hi z = le_z lo z && le_z z hi

-- "two bodies and the refusal of all others"
abbrev pub right_kind : Terms → Bool
right_kind (Among s t) = true
right_kind (Sum c) = true
right_kind Neither = false

-- not "a rule with another kind, or a field outside its range, or lb above ub"
abbrev pub right_one : Format → ℕ → Terms → Bounds → Bool
right_one f n t b = right_kind t && right_rule f n (rule_said n t b)

-- the same of rule k
abbrev pub right_at : Format → Problem → ℕ → Bool
right_at f p k = right_one f p.slots (get_or p.terms k Neither) (get_or p.bounds k no_bounds)

-- 4, 5, 6, the first that stands
abbrev pub fault_in : Format → Problem → ℕ
fault_in f p =
    let right5 = every right_set (said p).sets && every (size f.weight) (said p).weights in
    let right6 = every (right_at f p) (from 0 p.rules) in
    first_fault ((4, not (right_head p.slots p.rules)) ∷ (5, not right5) ∷ (6, not right6) ∷ [])

-- the number of an answer in code, 0 for none
abbrev pub fault_told : Option Refusal → ℕ
fault_told None = 0
fault_told (Some e) = number_of e

-- ---- by value: "entries past n and m and fields that a rule's kind lacks are zero"
-- the terms
abbrev pub terms_of : paper.Terms → Terms
terms_of (among s t) = Among s t
terms_of (sums c) = Sum (padded most_slots (pos 0) c)

-- the bounds
abbrev pub bounds_of : Said → Bounds
bounds_of r = record { lb = r.lb; ub = r.ub }

-- the whole problem
abbrev pub held : paper.Problem → Problem
held q =
    let rs = q.rules in
    record {
      slots = length q.sets;
      rules = length rs;
      sets = padded most_slots 0 q.sets;
      weights = padded most_slots (pos 0) q.weights;
      terms = padded most_rules Neither (map (λ r. terms_of r.terms) rs);
      bounds = padded most_rules no_bounds (map bounds_of rs);
    }

-- ---- a share
-- the coefficient of slot i is within its range
abbrev pub IsSmallAt : Terms → ℕ → Type 0
IsSmallAt (Among s t) i = ⊤
IsSmallAt (Sum c) i = Within 1000 (get_or c i (pos 0))
IsSmallAt Neither i = ⊤

-- it is the share that the terms say, of however many slots
pub record Shares (t : Terms) (i v : ℕ) (r : ℤ) : Type 0 where
  pub is : (n : ℕ) → i < n → r ≡ share_of (said_terms n t) i v
  pub within : Within 7000 r
