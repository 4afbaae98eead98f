-- Share by share from the row. The first k pairs are taken.
use mathlib.Core.Path.{◌≡◌}
use Rattle.state.specs.Pairs.{pairs, shares_at}
use Rattle.state.proofs.Turns.{filled}
use Rattle.state.proofs.shares.Given as goal

abbrev pub invariant-loop-k : goal.invariant-loop-k
invariant-loop-k l = pairs l.s ≡ filled l.k (shares_at l.row l.v) (pairs l.initial.s)
