-- Which lanes does an arc of each step add?
use Rattle.std.specs.Prelude.{List, [], ◌∷◌, ◌++◌, map, cond, ℕ, ◌/◌, ◌%◌, ◌^◌, get_or, ℤ, pos, ◌+ℤ◌, ◌*ℤ◌}
use Rattle.laws.specs.Lists.{gather, from, padded}
use Rattle.meaning.specs.Plan.{bit}
use Rattle.meaning.specs.Problem.{most_rules, step_count}
use Rattle.problem.specs.declared.Terms.{Terms}
use Rattle.problem.specs.declared.Terms.TheVariants.{Among, Sum, Neither}

-- only a sum rule has a coefficient of the slot
abbrev pub coef_part : ℕ → Terms → ℤ
coef_part i (Among s t) = pos 0
coef_part i (Sum c) = get_or c i (pos 0)
coef_part i Neither = pos 0

-- only an among rule counts values, in the slots that it names
abbrev pub value_part : ℕ → Terms → ℕ
value_part i (Among s t) = cond (bit t i) s 0
value_part i (Sum c) = 0
value_part i Neither = 0

-- of each of m rules, zero past them
abbrev pub coef_parts : ℕ → ℕ → List Terms → List ℤ
coef_parts m i terms = padded most_rules (pos 0) (map (λ r. coef_part i (get_or terms r Neither)) (from 0 m))

-- the same of the values
abbrev pub value_parts : ℕ → ℕ → List Terms → List ℕ
value_parts m i terms = padded most_rules 0 (map (λ r. value_part i (get_or terms r Neither)) (from 0 m))

-- a share by its parts: "coefficient times v", or 1 for a value in S
abbrev pub lane_of : ℤ → ℕ → ℕ → ℤ
lane_of coef value v = coef *ℤ pos v +ℤ pos (value / 2 ^ v % 2)

-- rule by rule
abbrev pub lanes_of : List ℤ → List ℕ → ℕ → List ℤ
lanes_of [] values v = []
lanes_of (c ∷ coefs) [] v = []
lanes_of (c ∷ coefs) (a ∷ values) v = lane_of c a v ∷ lanes_of coefs values v

-- a slot's row by its parts: eight shares for each step, then the prices
abbrev pub slot_lanes : List ℤ → List ℕ → ℤ → List ℤ
slot_lanes coefs values weight = gather (lanes_of coefs values) (from 0 step_count) ++ map (λ v. weight *ℤ pos v) (from 0 step_count)
