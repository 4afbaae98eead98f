-- What does the planner print, byte for byte?
use Rattle.std.specs.Prelude.{List, [], ◌∷◌, ◌++◌, Bool, true, false, ℕ, codes, flat_map, ℤ, Option, Some, None}
use Rattle.std.specs.Fmt.{decimal, signed_decimal}
use Rattle.refusal.specs.declared.Refusal.{Refusal}
use Rattle.refusal.specs.Refusals.{words_of}
use Rattle.diagram.specs.declared.Bound.{Bound}

-- a missing bound is `none`
abbrev pub number_text : Option ℤ → List ℕ
number_text (Some z) = signed_decimal z
number_text None = codes "none"

-- exact or open
abbrev pub exact_text : Bool → List ℕ
exact_text true = codes " exact"
exact_text false = codes " open"

-- `-3 exact`
abbrev pub bound_text : Bound → List ℕ
bound_text b = number_text b.value ++ exact_text b.exact

-- ` 0 1 1 0`
abbrev pub steps_text : List ℕ → List ℕ
steps_text plan = flat_map (λ v. codes " " ++ decimal v) plan

-- `dual 1 exact`
abbrev pub dual_line : Bound → List ℕ
dual_line b = codes "dual " ++ (bound_text b ++ 10 ∷ [])

-- the steps of the plan that costs the bound; none where there is no bound
abbrev pub shown_steps : Option ℤ → List ℕ → List ℕ
shown_steps (Some z) plan = steps_text plan
shown_steps None plan = []

-- `primal 1 exact 0 1 1 0`
abbrev pub primal_line : Bound → List ℕ → List ℕ
primal_line b plan = codes "primal " ++ (bound_text b ++ (shown_steps b.value plan ++ 10 ∷ []))

-- `plan 10 0 0 1 1`
abbrev pub plan_line : ℤ → List ℕ → List ℕ
plan_line cost plan = codes "plan " ++ (signed_decimal cost ++ (steps_text plan ++ 10 ∷ []))

-- `end 10`, or `more 1000` where a further plan exists
abbrev pub count_line : ℕ → Bool → List ℕ
count_line count true = codes "more " ++ (decimal count ++ 10 ∷ [])
count_line count false = codes "end " ++ (decimal count ++ 10 ∷ [])

-- `refused 4`
abbrev pub refusal_line : Refusal → List ℕ
refusal_line r = words_of r ++ 10 ∷ []
