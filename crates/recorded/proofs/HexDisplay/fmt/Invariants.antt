-- What is written so far are the digits of the bytes so far.
use Rattle.std.proofs.Common.{take}
use Rattle.std.specs.Fmt.{IsPlainFormatter, HasWritten}
use Rattle.recorded.specs.Text.{digit_pairs}
use Rattle.recorded.proofs.HexDisplay.fmt.Given as goal

abbrev pub invariant-loop-byte : goal.invariant-loop-byte
invariant-loop-byte g l = IsPlainFormatter l.initial.f → HasWritten g.W.Write.write_str_gives l.initial.f (digit_pairs (take l.byte-index l.byte-items)) l.f
