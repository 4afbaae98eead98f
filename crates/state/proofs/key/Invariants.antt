-- The lows, each times its number, added up: within 750,400,000.
use mathlib.Core.Path.{◌≡◌}
use Rattle.state.specs.Pairs.{pairs}
use Rattle.state.proofs.Keys.{key_to}
use Rattle.state.proofs.key.Given as goal

abbrev pub invariant-loop-k : goal.invariant-loop-k
invariant-loop-k l = l.key ≡ key_to l.k (pairs l.s)
