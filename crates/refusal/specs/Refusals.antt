-- Which number has a refusal, and how is it printed?
use Rattle.std.specs.Prelude.{List, ◌++◌, ℕ, codes}
use Rattle.std.specs.Fmt.{decimal}
use Rattle.refusal.specs.declared.Refusal.{Refusal}
use Rattle.refusal.specs.declared.Refusal.TheVariants.{EndsEarly, WrongMark, WrongVersion, WrongSize, WrongSlot, WrongRule, BytesLeft, WrongArguments, BeyondLimit, WrongStart, ShortBuffer}

-- "given exactly when no earlier fault stands": their order is that of the numbers
abbrev pub number_of : Refusal → ℕ
number_of EndsEarly = 1
number_of WrongMark = 2
number_of WrongVersion = 3
number_of WrongSize = 4
number_of WrongSlot = 5
number_of WrongRule = 6
number_of BytesLeft = 7
number_of WrongArguments = 8
number_of BeyondLimit = 9
number_of WrongStart = 10
number_of ShortBuffer = 11

-- the printed words
abbrev pub words_of : Refusal → List ℕ
words_of r = codes "refused " ++ decimal (number_of r)
