-- What do the answers from a file say in the paper's words?
use Rattle.std.specs.Prelude.{List, false, ℕ, ℤ, pos, Option, Result, Ok, Err, ⊤}
use Rattle.meaning.specs.Plan.{Campaign}
use Rattle.meaning.specs.File.{read_of}
use Rattle.meaning.specs.Calls.{opened}
use Rattle.meaning.specs.Calls as paper
use Rattle.refusal.specs.declared.Refusal.{Refusal}
use Rattle.refusal.specs.Refusals.{number_of}
use Rattle.problem.specs.declared.Problem.{Problem}
use Rattle.problem.specs.declared.sound.Sound.{Sound}
use Rattle.problem.specs.Held.{campaign_of}
use Rattle.judge.specs.Answers.{judged_as}
use Rattle.rtp.specs.Reading.{Reading, reading_of}

-- what the reader says of the file, by value: the problem, or the refusal's number and a problem that is all zero
abbrev pub sound_told : Result Sound Refusal → Reading
sound_told (Ok s) = reading_of (Ok s.problem)
sound_told (Err e) = reading_of (Err e)

-- the campaign that a file says, or the number of its first fault
abbrev pub campaign_read : List ℕ → Result Campaign ℕ
campaign_read f = opened (read_of f) Err Ok

-- the campaign of the problem that was read, or its refusal's number
abbrev pub campaign_told : Result Sound Refusal → Result Campaign ℕ
campaign_told (Ok s) = Ok (campaign_of s.problem)
campaign_told (Err e) = Err (number_of e)

-- the same of a problem that is lent
abbrev pub campaign_laid : Result ⊤ Refusal → Problem → Result Campaign ℕ
campaign_laid (Ok u) p = Ok (campaign_of p)
campaign_laid (Err e) p = Err (number_of e)

-- the judge's answer, or the refusal's number
abbrev pub judge_answer : Result (Option ℤ) Refusal → paper.Judged
judge_answer (Ok a) = judged_as a
judge_answer (Err e) = record { number = number_of e; lawful = false; cost = pos 0 }
