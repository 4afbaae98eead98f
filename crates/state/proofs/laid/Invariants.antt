-- Pair by pair into the row: k lows, and k turned highs.
use mathlib.Core.Path.{◌≡◌}
use lib.ListN.{length}
use Rattle.state.specs.Pairs.{pairs}
use Rattle.state.proofs.Rows.{laid_to}
use Rattle.state.proofs.laid.Given as goal

abbrev pub invariant-loop-k : goal.invariant-loop-k
invariant-loop-k l = (length l.row ≡ length l.initial.row) × (l.row ≡ laid_to l.initial.row l.at (pairs l.s) l.k)
