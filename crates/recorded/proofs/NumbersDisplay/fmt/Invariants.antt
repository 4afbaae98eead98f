-- Written since the first number are the numbers so far, each behind a comma.
use Rattle.std.proofs.Common.{take}
use Rattle.std.specs.Fmt.{IsPlainFormatter, HasWritten}
use Rattle.recorded.specs.Text.{with_commas}
use Rattle.recorded.proofs.NumbersDisplay.fmt.Given as goal

abbrev pub invariant-loop-number : goal.invariant-loop-number
invariant-loop-number g l = IsPlainFormatter l.initial.f → HasWritten g.W.Write.write_str_gives l.initial.f (with_commas (take l.number-index l.rest)) l.f
