-- What is written so far are the steps so far.
use Rattle.std.proofs.Common.{take}
use Rattle.std.specs.Fmt.{IsPlainFormatter, HasWritten}
use Rattle.report.specs.Lines.{steps_text}
use Rattle.report.proofs.StepsDisplay.fmt.Given as goal

abbrev pub invariant-loop-step : goal.invariant-loop-step
invariant-loop-step g l = IsPlainFormatter l.initial.f → HasWritten g.W.Write.write_str_gives l.initial.f (steps_text (take l.step-index l.step-items)) l.f
