-- What does it say that a problem passed its test, or did not?
use Rattle.std.specs.Prelude.{◌≡◌, Result, Ok, Err}
use Rattle.meaning.specs.Problem.{version1}
use Rattle.refusal.specs.declared.Refusal.{Refusal}
use Rattle.refusal.specs.Refusals.{number_of}
use Rattle.problem.specs.declared.Problem.{Problem}
use Rattle.problem.specs.declared.sound.Sound.{Sound}
use Rattle.problem.specs.Held.{fault_in}

-- the same problem, or the number of its first fault
abbrev pub Checks : Problem → Result Sound Refusal → Type 0
Checks p (Ok s) = s.problem ≡ p
Checks p (Err e) = fault_in version1 p ≡ number_of e
