-- What does one layer make of its arcs?
use Rattle.std.specs.Prelude.{◌≡◌, List, [], ◌++◌, map, ℕ, length, get_or, drop, ℤ, pos}
use Rattle.std.proofs.Math.Option.{Option}
use Rattle.laws.specs.Lists.{from}
use Rattle.meaning.specs.Diagram.{State, Node, distinct, Builder}
use Rattle.classes.specs.Classes.{class_byte}
use Rattle.layer.specs.Places.{placed}

-- the bounds of m rules as pairs: no low above ub, no high below lb
abbrev pub bounds_at : ℕ → List ℤ → List ℤ → State
bounds_at m lbs ubs = map (λ k. (get_or ubs k (pos 0), get_or lbs k (pos 0))) (from 0 m)

-- a layer of the arrivals xs: the bytes of its arcs, and the number of states of the next layer
pub record Made (b : Builder) (w : ℕ) (xs : List (Option Node)) (arcs₀ arcs : List ℕ) (count : ℕ) : Type 0 where
  pub bytes : arcs ≡ map (placed b w) (map (class_byte (distinct [] xs)) xs ++ drop (length xs) arcs₀)
  pub states : count ≡ length (distinct [] xs)
