-- What do the builders' answers say in the paper's words?
use Rattle.std.specs.Prelude.{List, Bool, true, false, cond, ℕ, ℤ, pos, Option, Some, None, Result, Ok, Err}
use Rattle.laws.specs.Z.{eq_z}
use Rattle.meaning.specs.Calls as paper
use Rattle.refusal.specs.declared.Refusal.{Refusal}
use Rattle.refusal.specs.Refusals.{number_of}
use Rattle.diagram.specs.declared.Bound.{Bound}

-- is there a bound, the bound, exact or open
abbrev pub bound_as : Option ℤ → Bool → paper.Bound
bound_as (Some z) e = record { number = 0; present = true; bound = z; exact = e }
bound_as None e = record { number = 0; present = false; bound = pos 0; exact = e }

-- beside a refusal's number the rest is zero and no
abbrev pub bounded_as : Result Bound Refusal → paper.Bound
bounded_as (Ok b) = bound_as b.value b.exact
bounded_as (Err e) = record { number = number_of e; present = false; bound = pos 0; exact = false }

-- what the source's first cell and the sink's cost down say: a source that is absent has zeros
abbrev pub bound_said : ℤ → ℤ → Bool → paper.Bound
bound_said first last e = cond (eq_z first (pos 0)) (bound_as None e) (bound_as (Some last) e)

-- the buffers that are lent
abbrev pub lent_of : List ℕ → List ℤ → List ℕ → paper.Lent
lent_of arcs cells plan = record { arcs = arcs; cells = cells; plan = plan }
