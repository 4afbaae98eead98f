-- Which pairs does a state by value have, and what are its sums, tests, lanes and keys?
use Rattle.std.specs.Prelude.{List, [], ◌∷◌, map, ◌++◌, Bool, true, ◌&&◌, ℕ, ◌+◌, ◌*◌, ◌%◌, take, drop, ℤ, pos, neg_ℤ, nat_abs, ◌+ℤ◌, ◌-ℤ◌, ◌*ℤ◌}
use Rattle.std.specs.Int.Signed.{le_z}
use Rattle.laws.specs.Z.{Within}
use Rattle.laws.proofs.Each.{Each}
use Rattle.meaning.specs.Diagram as paper
use Rattle.state.specs.declared.Pair.{Pair}
use Rattle.state.specs.declared.State.{State}

-- low and high; the high stands with its sign turned
abbrev pub pair_of : Pair → paper.Pair
pair_of p = (p.lo, neg_ℤ p.hi)

-- "one pair of running totals for every rule"
abbrev pub pairs : State → paper.State
pairs s = map pair_of s.at

-- every total within the size b
abbrev pub Inside : ℕ → paper.State → Type 0
Inside b t = Each (λ p. Within b p.0 × Within b p.1) t

-- place by place the sum
abbrev pub added : paper.State → paper.State → paper.State
added [] u = []
added (p ∷ t) [] = []
added (p ∷ t) (q ∷ u) = (p.0 +ℤ q.0, p.1 +ℤ q.1) ∷ added t u

-- place by place the difference
abbrev pub lessened : paper.State → paper.State → paper.State
lessened [] u = []
lessened (p ∷ t) [] = []
lessened (p ∷ t) (q ∷ u) = (p.0 -ℤ q.0, p.1 -ℤ q.1) ∷ lessened t u

-- no low above the limit's, no high below it
abbrev pub fits_in : paper.State → paper.State → Bool
fits_in [] ls = true
fits_in (p ∷ t) [] = true
fits_in (p ∷ t) (l ∷ ls) = (le_z p.0 l.0 && le_z l.1 p.1) && fits_in t ls

-- the pairs of some lows and some highs with their sign turned
abbrev pub paired : List ℤ → List ℤ → paper.State
paired [] ys = []
paired (x ∷ xs) [] = []
paired (x ∷ xs) (y ∷ ys) = (x, neg_ℤ y) ∷ paired xs ys

-- the pairs that stand at a place of a row: eight lows, eight turned highs
abbrev pub pairs_at : List ℤ → ℕ → paper.State
pairs_at row at = paired (take 8 (drop at row)) (take 8 (drop (at + 8) row))

-- the shares of step v in a slot's row: each counts for the low and for the high
abbrev pub shares_at : List ℤ → ℕ → paper.State
shares_at row v = map (λ z. (z, z)) (take 8 (drop (v * 8) row))

-- the lanes of some pairs: the lows, the turned highs
abbrev pub unpaired : paper.State → List ℤ
unpaired t = map (λ p. p.0) t ++ map (λ p. neg_ℤ p.1) t

-- the lows, each times a number of its place, added up
abbrev pub keyed : List ℤ → paper.State → ℤ
keyed [] t = pos 0
keyed (k ∷ ks) [] = pos 0
keyed (k ∷ ks) (p ∷ t) = p.0 *ℤ k +ℤ keyed ks t

-- a state's key
abbrev pub key_of : paper.State → ℤ
key_of t = keyed (pos 613 ∷ pos 397 ∷ pos 511 ∷ pos 301 ∷ pos 459 ∷ pos 547 ∷ pos 271 ∷ pos 653 ∷ []) t

-- one of 256 buckets
abbrev pub bucket_in : ℤ → ℕ
bucket_in key = nat_abs (pos 1000000000 +ℤ key) % 256

-- of a state
abbrev pub bucket_of : paper.State → ℕ
bucket_of t = bucket_in (key_of t)
