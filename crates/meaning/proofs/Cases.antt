-- Do the meanings give the paper's own numbers? Tables of cases, each table under one claim that the checker computes.
use mathlib.Core.Path.{◌≡◌, refl}
use mathlib.Core.List.{List, [], ◌∷◌, ◌++◌, map}
use mathlib.Core.Bool.{Bool, true, false, not, ◌&&◌}
use mathlib.Core.Option.{Option, none, some}
use Prim.Native.Nat.{ℕ, ◌+◌}
use lib.Dec.{eqb}
use lib.ListN.{length, take, drop, replicate}
use lib.IntN.{ℤ, pos, negsuc}
use Rattle.laws.specs.Z.{eq_z}
use Rattle.laws.specs.Lists.{every, same}
use Rattle.meaning.specs.Plan.{Campaign, lawful, lawfuls, cost, cheapest}
use Rattle.meaning.specs.Problem.{limit, among, sums, Said, Problem, campaign, version1, in_range}
use Rattle.meaning.specs.Diagram.{Arcs, relaxed, restricted, is_exact}
use Rattle.meaning.specs.Filter.{relaxed_arcs}
use Rattle.meaning.specs.Bound.{paths, is_path, dual, shown, primal, least}
use Rattle.meaning.specs.Buffers.{arc_bytes, arcs_in, of_form}
use Rattle.meaning.specs.Page.{listed, walked, drawn, ending}
use Rattle.meaning.specs.File.{got, read_of, bytes_of}
use Rattle.meaning.specs.Running.{guard}
use Rattle.meaning.specs.Calls.{Judged, Bound, Lent, Done, Choice, empty_start, standing, new, read, judge, better, relaxed_of, relaxed_call, restricted_call, page_call}

-- ---- the paper's cases
-- C, from document 004: "weights 2 −3 4 6, sum rule 2 3 5 5 within 7..15"
abbrev problem_c : Problem
problem_c = record {
  sets = 3 ∷ 3 ∷ 3 ∷ 3 ∷ [];
  weights = pos 2 ∷ negsuc 2 ∷ pos 4 ∷ pos 6 ∷ [];
  rules = record { terms = sums (pos 2 ∷ pos 3 ∷ pos 5 ∷ pos 5 ∷ []); lb = pos 7; ub = pos 15; lead = pos 0 } ∷ [];
}

-- B, from 002: "four slots {0,1}, among S={1}, 1..2, all slots; weights −1"
abbrev problem_b : Problem
problem_b = record {
  sets = 3 ∷ 3 ∷ 3 ∷ 3 ∷ [];
  weights = replicate 4 (negsuc 0);
  rules = record { terms = among 2 15; lb = pos 1; ub = pos 2; lead = pos 0 } ∷ [];
}

-- A, from 000: "weights −5 −4 −2 −6 −8, at most one step 1 in each of the pairs 01, 04, 12, 13, 23, 34"
abbrev at_most_one : ℕ → Said
at_most_one t = record { terms = among 2 t; lb = pos 0; ub = pos 1; lead = pos 0 }

abbrev problem_a : Problem
problem_a = record {
  sets = 3 ∷ 3 ∷ 3 ∷ 3 ∷ 3 ∷ [];
  weights = negsuc 4 ∷ negsuc 3 ∷ negsuc 1 ∷ negsuc 5 ∷ negsuc 7 ∷ [];
  rules = map at_most_one (3 ∷ 17 ∷ 6 ∷ 10 ∷ 12 ∷ 24 ∷ []);
}

-- "one slot {3}, no rules, weight 10,000"
abbrev problem_one : Problem
problem_one = record { sets = 8 ∷ []; weights = pos 10000 ∷ []; rules = [] }

abbrev campaign_a : Campaign
campaign_a = campaign problem_a

abbrev campaign_b : Campaign
campaign_b = campaign problem_b

abbrev campaign_c : Campaign
campaign_c = campaign problem_c

abbrev one : Campaign
one = campaign problem_one

-- ---- what a case may say
abbrev holds : List Bool → Bool
holds bs = every (λ b. b) bs

abbrev says : Option ℤ → Option ℤ → Bool
says none none = true
says none (some b) = false
says (some a) none = false
says (some a) (some b) = eq_z a b

abbrev is_plan : Option (List ℕ) → List ℕ → Bool
is_plan none p = false
is_plan (some b) p = same b p

abbrev are_plans : List (List ℕ) → List (List ℕ) → Bool
are_plans [] [] = true
are_plans [] (q ∷ qs) = false
are_plans (p ∷ ps) [] = false
are_plans (p ∷ ps) (q ∷ qs) = same p q && are_plans ps qs

-- "unless a case says otherwise the ceiling is 2,000,000 and 64 rounds are asked"
abbrev has_paths : Campaign → ℕ → ℕ → Bool
has_paths q w n = eqb (length (paths q (relaxed_arcs q w 64 (pos limit)))) n

abbrev has_path : Campaign → ℕ → List ℕ → Bool
has_path q w p = is_path (relaxed_arcs q w 64 (pos limit)) p

abbrev dual_is : Campaign → ℕ → ℤ → Bool
dual_is q w z = says (dual q w 64 (pos limit)) (some z)

abbrev cheapest_is : Campaign → List ℕ → ℤ → Bool
cheapest_is q p z = is_plan (cheapest q (lawfuls q)) p && eq_z (cost q p) z

-- ---- the twelve marked cases
abbrev marked : List Bool
marked =
    cheapest_is campaign_c (0 ∷ 1 ∷ 1 ∷ 0 ∷ []) (pos 1)
    ∷ eqb (length (lawfuls campaign_c)) 10
    ∷ lawful campaign_c (0 ∷ 0 ∷ 1 ∷ 1 ∷ [])
    ∷ not (lawful campaign_c (1 ∷ 1 ∷ 0 ∷ 0 ∷ []))
    ∷ (has_paths campaign_b 1 16 && dual_is campaign_b 1 (negsuc 3))
    ∷ (has_paths campaign_b 2 15 && dual_is campaign_b 2 (negsuc 3) && not (has_path campaign_b 2 (0 ∷ 0 ∷ 0 ∷ 0 ∷ [])) && has_path campaign_b 2 (1 ∷ 1 ∷ 1 ∷ 1 ∷ []))
    ∷ (is_exact relaxed campaign_b 3 && dual_is campaign_b 3 (negsuc 1))
    ∷ (is_plan (shown campaign_b 2) (0 ∷ 0 ∷ 1 ∷ 1 ∷ []) && says (primal campaign_b 2) (some (negsuc 1)) && not (is_exact restricted campaign_b 2))
    ∷ cheapest_is campaign_a (0 ∷ 1 ∷ 0 ∷ 0 ∷ 1 ∷ []) (negsuc 11)
    ∷ eqb (length (lawfuls campaign_a)) 10
    ∷ are_plans (listed campaign_a (negsuc 9) []) ((0 ∷ 0 ∷ 1 ∷ 0 ∷ 1 ∷ []) ∷ (0 ∷ 1 ∷ 0 ∷ 0 ∷ 1 ∷ []) ∷ (1 ∷ 0 ∷ 0 ∷ 1 ∷ 0 ∷ []) ∷ [])
    ∷ (lawful one (3 ∷ []) && eq_z (cost one (3 ∷ [])) (pos 30000))
    ∷ []

pub marked_hold : holds marked ≡ true
marked_hold = refl

-- ---- further cases
abbrev file_c : List ℕ
file_c =
    82 ∷ 84 ∷ 80 ∷ 1 ∷ 0 ∷ 4 ∷ 1 ∷ 3 ∷ 3 ∷ 3 ∷ 3 ∷ 2 ∷ 0 ∷ 0 ∷ 0 ∷ 253 ∷ 255 ∷ 255 ∷ 255 ∷ 4 ∷ 0 ∷ 0 ∷ 0 ∷ 6 ∷ 0 ∷ 0 ∷ 0
    ∷ 2 ∷ 2 ∷ 0 ∷ 3 ∷ 0 ∷ 5 ∷ 0 ∷ 5 ∷ 0 ∷ 7 ∷ 0 ∷ 0 ∷ 0 ∷ 15 ∷ 0 ∷ 0 ∷ 0 ∷ []

-- one slot: "ceiling 29,999 and one round: dual none"; no round drops nothing; "a plan that costs exactly the ceiling stays".
-- C at width 1, ceiling 1: a round reckons "from the arcs present at its start", so that one round leaves the dual at −3 and two raise it to 1.
-- C in pages of three: all ten plans; the fourth page says that there is no more, and no page before it
abbrev further : List Bool
further =
    says (dual one 1 1 (pos 29999)) none
    ∷ says (dual one 1 0 (pos 29999)) (some (pos 30000))
    ∷ says (dual one 1 1 (pos 30000)) (some (pos 30000))
    ∷ says (dual campaign_c 1 1 (pos 1)) (some (negsuc 2))
    ∷ says (dual campaign_c 1 2 (pos 1)) (some (pos 1))
    ∷ are_plans (drawn (replicate 4 3) campaign_c (pos limit) []) (lawfuls campaign_c)
    ∷ ending (replicate 4 3) campaign_c (pos limit) []
    ∷ not (ending (replicate 3 3) campaign_c (pos limit) [])
    ∷ []

pub further_hold : (holds further ≡ true) × (read_of file_c ≡ got problem_c [])
further_hold = (refl, refl)

-- ---- refusals, the first fault in order: read, then pages with C's file
-- buffers of C's need at width 2, with room for three plans
abbrev lent : Lent
lent = record { arcs = replicate 64 170; cells = replicate 70 (pos 170); plan = replicate 12 170 }

abbrev short : Lent
short = record { arcs = replicate 63 170; cells = replicate 70 (pos 170); plan = replicate 12 170 }

-- C's file with byte i changed to b
abbrev changed : ℕ → ℕ → List ℕ
changed i b = take i file_c ++ (b ∷ drop (i + 1) file_c)

abbrev paged : ℕ → ℕ → ℤ → List ℕ → Lent → ℕ
paged w n c s l = (page_call file_c w n c s l).answer.number

-- a weight that no file has: its cost alone leaves the limit
abbrev problem_heavy : Problem
problem_heavy = record { sets = 8 ∷ []; weights = pos 1000000 ∷ []; rules = [] }

abbrev numbers : List ℕ
numbers =
    (read file_c).number
    ∷ (read (take 43 file_c)).number
    ∷ (read (changed 0 81)).number
    ∷ (read (changed 3 2)).number
    ∷ (read (changed 5 25)).number
    ∷ (read (changed 7 0)).number
    ∷ (read (changed 27 3)).number
    ∷ (read (changed 40 6)).number
    ∷ (read (file_c ++ (0 ∷ []))).number
    ∷ paged 2 64 (pos limit) [] lent
    ∷ paged 17 64 (pos limit) (0 ∷ []) short
    ∷ paged 2 65 (pos limit) [] lent
    ∷ paged 2 64 (pos (limit + 1)) [] lent
    ∷ paged 2 64 (pos limit) (0 ∷ []) short
    ∷ paged 2 64 (pos limit) [] short
    ∷ (relaxed_of (campaign problem_heavy) 1 0 (pos 0) lent).answer.number
    ∷ []

-- "the lent buffers unchanged"
pub refusals_hold : (numbers ≡ 0 ∷ 1 ∷ 2 ∷ 3 ∷ 4 ∷ 5 ∷ 6 ∷ 6 ∷ 7 ∷ 0 ∷ 8 ∷ 8 ∷ 8 ∷ 10 ∷ 11 ∷ 9 ∷ []) × ((page_call file_c 2 64 (pos limit) [] short).lent ≡ short)
refusals_hold = (refl, refl)

-- ---- what the operations answer
-- lawful; unlawful; of another length; a refused file
abbrev judgements : List Judged
judgements =
    judge file_c (0 ∷ 0 ∷ 1 ∷ 1 ∷ [])
    ∷ judge file_c (1 ∷ 1 ∷ 0 ∷ 0 ∷ [])
    ∷ judge file_c (0 ∷ 0 ∷ 1 ∷ [])
    ∷ judge (changed 3 2) (0 ∷ 0 ∷ 1 ∷ 1 ∷ [])
    ∷ []

abbrev judgement : ℕ → Bool → ℤ → Judged
judgement k t z = record { number = k; lawful = t; cost = z }

-- the lower cost, either way round; equal costs; one lawful; neither; a refused file
abbrev choices : List Choice
choices =
    better file_c (0 ∷ 1 ∷ 1 ∷ 0 ∷ []) (1 ∷ 0 ∷ 0 ∷ 1 ∷ [])
    ∷ better file_c (1 ∷ 0 ∷ 0 ∷ 1 ∷ []) (0 ∷ 1 ∷ 1 ∷ 0 ∷ [])
    ∷ better file_c (0 ∷ 1 ∷ 0 ∷ 1 ∷ []) (1 ∷ 1 ∷ 1 ∷ 0 ∷ [])
    ∷ better file_c (1 ∷ 1 ∷ 0 ∷ 0 ∷ []) (1 ∷ 0 ∷ 0 ∷ 1 ∷ [])
    ∷ better file_c (1 ∷ 1 ∷ 0 ∷ 0 ∷ []) (0 ∷ [])
    ∷ better (changed 3 2) (0 ∷ 1 ∷ 1 ∷ 0 ∷ []) (0 ∷ 1 ∷ 1 ∷ 0 ∷ [])
    ∷ []

-- C at width 2 and B restricted at width 2, a cell and a byte of each buffer past the need
abbrev longer : Lent
longer = record { arcs = replicate 65 170; cells = replicate 71 (pos 170); plan = replicate 5 170 }

abbrev drawn_c : Done Bound
drawn_c = relaxed_call file_c 2 64 (pos 0) longer

abbrev drawn_b : Done Bound
drawn_b = restricted_call (bytes_of version1 problem_b) 2 longer

pub answers_hold : (judgements ≡ judgement 0 true (pos 10) ∷ judgement 0 false (pos 0) ∷ judgement 0 false (pos 0) ∷ judgement 3 false (pos 0) ∷ [])
    × (choices ≡ standing ∷ new ∷ standing ∷ new ∷ empty_start ∷ empty_start ∷ [])
    × (drawn_c.answer ≡ record { number = 0; present = false; bound = pos 0; exact = false })
    × (drawn_c.lent ≡ record { arcs = replicate 65 0; cells = replicate 71 (pos 0); plan = replicate 5 170 })
    × (drawn_b.answer ≡ record { number = 0; present = true; bound = negsuc 1; exact = false })
    × (drawn_b.lent.plan ≡ 0 ∷ 0 ∷ 1 ∷ 1 ∷ 0 ∷ [])
answers_hold = (refl, refl, refl, refl, refl, refl)

-- ---- ranges, the guard, and bytes read as any arcs are
-- the relaxed diagram of B at width 2, from its bytes
abbrev arcs_b : Arcs
arcs_b = arcs_in campaign_b 2 (arc_bytes campaign_b 2 64 (relaxed_arcs campaign_b 2 64 (pos limit)))

abbrev leaned : List Bool
leaned =
    same (bytes_of version1 problem_c) file_c
    ∷ (in_range version1 problem_c && not (in_range version1 problem_heavy))
    ∷ (guard (campaign problem_heavy) && not (guard campaign_c))
    ∷ (of_form 2 arcs_b && not (of_form 1 arcs_b))
    ∷ are_plans (take 1 (walked arcs_b campaign_b (pos limit) (0 ∷ 9 ∷ 0 ∷ 0 ∷ []))) ((1 ∷ 0 ∷ 0 ∷ 0 ∷ []) ∷ [])
    ∷ []

pub leaned_hold : holds leaned ≡ true
leaned_hold = refl

-- ---- what may not be claimed: equal bounds above the ceiling, and a cheaper lawful plan
-- sets {0,1} {0,1,3} {0,1,3} {0,1}, weights −1 −2 2 0, sum rule −2 −2 3 1 within 1..4; width 1, 2 rounds, ceiling −3
abbrev campaign_d : Campaign
campaign_d = campaign (record {
  sets = 3 ∷ 11 ∷ 11 ∷ 3 ∷ [];
  weights = negsuc 0 ∷ negsuc 1 ∷ pos 2 ∷ pos 0 ∷ [];
  rules = record { terms = sums (negsuc 1 ∷ negsuc 1 ∷ pos 3 ∷ pos 1 ∷ []); lb = pos 1; ub = pos 4; lead = pos 0 } ∷ [];
})

abbrev unclaimed : List Bool
unclaimed = says (dual campaign_d 1 2 (negsuc 2)) (some (pos 0)) ∷ says (primal campaign_d 1) (some (pos 0)) ∷ says (least campaign_d) (some (negsuc 0)) ∷ []

pub unclaimed_hold : holds unclaimed ≡ true
unclaimed_hold = refl
