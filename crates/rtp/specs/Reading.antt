-- What does the reader hand back, in the words of the meanings?
use Rattle.std.specs.Prelude.{List, [], map, ℕ, take, drop, Result, Ok, Err, ⊤}
use Rattle.laws.specs.Lists.{padded}
use Rattle.meaning.specs.Problem.{most_rules, Said, version1}
use Rattle.meaning.specs.File.{Got, refused, got, Reader, ◌>>=◌, little, signed, part, kind_next}
use Rattle.meaning.specs.Calls.{Read}
use Rattle.refusal.specs.declared.Refusal.{Refusal}
use Rattle.refusal.specs.Refusals.{number_of}
use Rattle.problem.specs.declared.Problem.{Problem}
use Rattle.problem.specs.declared.Bounds.{Bounds}
use Rattle.problem.specs.declared.Terms.{Terms}
use Rattle.problem.specs.declared.Terms.TheVariants.{Neither}
use Rattle.problem.specs.Held.{terms_of, bounds_of, no_bounds, held}
use Rattle.cursor.specs.declared.Cursor.{Cursor}

-- ---- a rule: "its kind byte present, its kind, its body present, its fields"
abbrev pub rule_next : ℕ → Reader Said
rule_next n = do
  k ← part 1
  kind_next version1 n (little k)

-- lb and ub in eight bytes
abbrev pub bounds_said : List ℕ → Bounds
bounds_said b = record { lb = signed 4 (take 4 b); ub = signed 4 (take 4 (drop 4 b)) }

-- its terms and bounds
abbrev pub parts_of : Said → Terms × Bounds
parts_of r = (terms_of r.terms, bounds_of r)

-- those of all rules, in arrays
abbrev pub all_parts : List Said → List Terms × List Bounds
all_parts rs = (padded most_rules Neither (map (λ r. terms_of r.terms) rs), padded most_rules no_bounds (map bounds_of rs))

-- a value seen as f says
abbrev pub onto : {X Y : Type 0} → (X → Y) → Got X → Got Y
onto f (refused k) = refused k
onto f (got x rest) = got (f x) rest

-- two values and the bytes behind them, or the refusal's number
abbrev pub both_of : {X Y : Type 0} → Result (X × Y × Cursor) Refusal → Got (X × Y)
both_of (Ok p) = got (p.0, p.1) p.2.rest.now
both_of (Err e) = refused (number_of e)

-- arrays that are lent and the bytes behind what was read into them, or the refusal's number, whatever they hold then
abbrev pub laid_of : {X Y : Type 0} → Result Cursor Refusal → X → Y → Got (X × Y)
laid_of (Ok c) x y = got (x, y) c.rest.now
laid_of (Err e) x y = refused (number_of e)

-- ---- a file: number 0 and the problem by value, or a refusal's number and a problem that is all zero
pub record Reading : Type 0 where
  pub number : ℕ
  pub problem : Problem

-- what the meanings read
abbrev pub read_as : Read → Reading
read_as r = record { number = r.number; problem = held r.problem }

-- a problem that says nothing: all zero
abbrev pub said_nothing : Problem
said_nothing = held (record { sets = []; weights = []; rules = [] })

-- what the code hands back
abbrev pub reading_of : Result Problem Refusal → Reading
reading_of (Ok p) = record { number = 0; problem = p }
reading_of (Err e) = record { number = number_of e; problem = said_nothing }

-- the same of a problem that is lent, whatever it holds after a refusal
abbrev pub filled_of : Result ⊤ Refusal → Problem → Reading
filled_of (Ok u) p = reading_of (Ok p)
filled_of (Err e) p = reading_of (Err e)

-- the same with what it holds
abbrev pub reading_in : Result ⊤ Refusal → Problem → Reading
reading_in (Ok u) p = record { number = 0; problem = p }
reading_in (Err e) p = record { number = number_of e; problem = p }
