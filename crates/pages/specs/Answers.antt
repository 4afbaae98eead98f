-- What does the page's answer say in the paper's words?
use Rattle.std.specs.Prelude.{false, Result, Ok, Err}
use Rattle.meaning.specs.Calls as paper
use Rattle.refusal.specs.declared.Refusal.{Refusal}
use Rattle.refusal.specs.Refusals.{number_of}
use Rattle.step.specs.declared.Listed.{Listed}

-- number, how many plans, and whether there are more; beside a refusal's number the rest is zero and no
abbrev pub counted_as : Result Listed Refusal → paper.Count
counted_as (Ok l) = record { number = 0; count = l.count; more = l.more }
counted_as (Err e) = record { number = number_of e; count = 0; more = false }
