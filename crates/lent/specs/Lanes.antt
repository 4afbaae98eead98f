-- What do lanes say, lane by lane?
use Rattle.std.specs.Prelude.{List, [], ◌∷◌, ◌++◌, map, Bool, true, ◌&&◌, ℕ, ◌+◌, ◌*◌, get_or, take, drop, ℤ, pos, neg_ℤ, ◌+ℤ◌}
use Rattle.std.specs.Int.Signed.{le_z}
use Rattle.laws.specs.Z.{min_z}

-- the 17 lanes that stand at a place of a row
abbrev pub lanes_at : List ℤ → ℕ → List ℤ
lanes_at row at = take 17 (drop at row)

-- a slot's row has eight shares for each of 8 steps and then their prices: the lanes that an arc of step v adds
abbrev pub arc_at : List ℤ → ℕ → List ℤ
arc_at row v = let shares = take 8 (drop (v * 8) row) in shares ++ map neg_ℤ shares ++ (get_or row (64 + v) (pos 0) ∷ [])

-- lane by lane what an operation makes of two
abbrev pub zipped : (ℤ → ℤ → ℤ) → List ℤ → List ℤ → List ℤ
zipped f [] ys = []
zipped f (x ∷ xs) [] = []
zipped f (x ∷ xs) (y ∷ ys) = f x y ∷ zipped f xs ys

-- lane by lane the sum
abbrev pub sums : List ℤ → List ℤ → List ℤ
sums xs ys = zipped ◌+ℤ◌ xs ys

-- lane by lane the least
abbrev pub leasts : List ℤ → List ℤ → List ℤ
leasts xs ys = zipped min_z xs ys

-- no lane is above its limit
abbrev pub at_most : List ℤ → List ℤ → Bool
at_most [] ys = true
at_most (x ∷ xs) [] = true
at_most (x ∷ xs) (y ∷ ys) = le_z x y && at_most xs ys
