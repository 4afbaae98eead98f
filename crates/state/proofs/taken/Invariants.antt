-- Pair by pair from the row. The first k pairs are taken.
use mathlib.Core.Path.{◌≡◌}
use Rattle.state.specs.Pairs.{pairs, pairs_at}
use Rattle.state.proofs.Turns.{filled}
use Rattle.state.proofs.taken.Given as goal

abbrev pub invariant-loop-k : goal.invariant-loop-k
invariant-loop-k l = pairs l.s ≡ filled l.k (pairs_at l.row l.at) (pairs l.initial.s)
