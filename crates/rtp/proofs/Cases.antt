-- What is read, place by place: an accepted file with a rule of each kind, and a refused one.
use mathlib.Core.Path.{◌≡◌, refl}
use mathlib.Core.List.{List, [], ◌∷◌, ◌++◌}
use Prim.Native.Nat.{ℕ}
use lib.ListN.{replicate}
use lib.IntN.{pos, negsuc}
use Rattle.meaning.specs.Calls.{read}
use Rattle.problem.specs.declared.Terms.TheVariants.{Among, Sum, Neither}
use Rattle.problem.specs.Held.{no_bounds}
use Rattle.rtp.specs.Reading.{read_as}

-- two slots, {0,1} and {3}, weights -1 and 2; among S = {1} over slot 0 within 0..1; sum 5, -3 within -9..5
abbrev file : List ℕ
file =
    82 ∷ 84 ∷ 80 ∷ 1 ∷ 0 ∷ 2 ∷ 2 ∷ 3 ∷ 8 ∷ 255 ∷ 255 ∷ 255 ∷ 255 ∷ 2 ∷ 0 ∷ 0 ∷ 0
    ∷ 1 ∷ 2 ∷ 1 ∷ 0 ∷ 0 ∷ 0 ∷ 0 ∷ 0 ∷ 0 ∷ 0 ∷ 1 ∷ 0 ∷ 0 ∷ 0
    ∷ 2 ∷ 5 ∷ 0 ∷ 253 ∷ 255 ∷ 247 ∷ 255 ∷ 255 ∷ 255 ∷ 5 ∷ 0 ∷ 0 ∷ 0 ∷ []

pub accepted_case : read_as (read file) ≡ record {
  number = 0;
  problem = record {
    slots = 2;
    rules = 2;
    sets = 3 ∷ 8 ∷ replicate 22 0;
    weights = negsuc 0 ∷ pos 2 ∷ replicate 22 (pos 0);
    terms = Among 2 1 ∷ Sum (pos 5 ∷ negsuc 2 ∷ replicate 22 (pos 0)) ∷ replicate 6 Neither;
    bounds = record { lb = pos 0; ub = pos 1 } ∷ record { lb = negsuc 8; ub = pos 5 } ∷ replicate 6 no_bounds;
  };
}
accepted_case = refl

-- the same file with a byte behind
pub refused_case : read_as (read (file ++ 0 ∷ [])) ≡ record {
  number = 7;
  problem = record {
    slots = 0;
    rules = 0;
    sets = replicate 24 0;
    weights = replicate 24 (pos 0);
    terms = replicate 8 Neither;
    bounds = replicate 8 no_bounds;
  };
}
refused_case = refl
