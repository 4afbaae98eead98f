-- A flag that falls at a place past the limit. It is the test of the first k lows, and then of all lows and the first k highs.
use mathlib.Core.Bool.{true}
use Rattle.state.specs.Pairs.{pairs}
use Rattle.state.proofs.Joined.{joined, fit_low, fit_high, all}
use Rattle.state.proofs.Turns.{TestedTo}
use Rattle.state.proofs.fits.Given as goal

abbrev pub invariant-loop-k : goal.invariant-loop-k
invariant-loop-k l = TestedTo fit_low true l.s.at l.limit.at l.k l.ok

abbrev pub invariant-loop-k-2 : goal.invariant-loop-k-2
invariant-loop-k-2 l = TestedTo fit_high (all (joined fit_low (pairs l.s) (pairs l.limit))) l.s.at l.limit.at l.k l.ok
