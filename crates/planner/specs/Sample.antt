-- Which problem is built into the program?
use Rattle.std.specs.Prelude.{List, [], ◌∷◌, map, ℕ, ◌+◌, ◌^◌, replicate, ℤ, pos, negsuc}
use Rattle.meaning.specs.Problem.{among, Said}
use Rattle.meaning.specs.Problem as paper

-- "weights −5 −4 −2 −6 −8"
abbrev pub sample_weights : List ℤ
sample_weights = negsuc 4 ∷ negsuc 3 ∷ negsuc 1 ∷ negsuc 5 ∷ negsuc 7 ∷ []

-- "the pairs 01, 04, 12, 13, 23, 34"
abbrev pub sample_pairs : List (ℕ × ℕ)
sample_pairs = (0, 1) ∷ (0, 4) ∷ (1, 2) ∷ (1, 3) ∷ (2, 3) ∷ (3, 4) ∷ []

-- "at most one step 1 in each"
abbrev pub at_most_one : ℕ × ℕ → Said
at_most_one ab = record { terms = among 2 (2 ^ ab.0 + 2 ^ ab.1); lb = pos 0; ub = pos 1; lead = pos 0 }

-- case A: "five slots {0,1}"
abbrev pub case_a : paper.Problem
case_a = record { sets = replicate 5 3; weights = sample_weights; rules = map at_most_one sample_pairs }
