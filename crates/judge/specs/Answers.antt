-- What do the judge's answers say in the paper's words?
use Rattle.std.specs.Prelude.{List, ℕ, ◌≤◌, ◌<◌, true, false, length, ℤ, pos, Option, Some, None}
use Rattle.laws.proofs.Each.{Each}
use Rattle.meaning.specs.Problem.{step_count, most_slots}
use Rattle.meaning.specs.Calls.{Choice, empty_start, standing, new}
use Rattle.meaning.specs.Calls as paper
use Rattle.judge.specs.declared.Which.{Which}
use Rattle.judge.specs.declared.Which.TheVariants.{EmptyStart, Standing, New}

-- a cost is that of a lawful plan; no cost is beside an unlawful one, with 0
abbrev pub judged_as : Option ℤ → paper.Judged
judged_as (Some c) = record { number = 0; lawful = true; cost = c }
judged_as None = record { number = 0; lawful = false; cost = pos 0 }

-- which slice each case hands back
abbrev pub choice_of : Which → Choice
choice_of EmptyStart = empty_start
choice_of Standing = standing
choice_of New = new

-- at most 24 steps, each one of the eight
pub record Steps (p : List ℕ) : Type 0 where
  pub count : length p ≤ most_slots
  pub below : Each (λ v. v < step_count) p
