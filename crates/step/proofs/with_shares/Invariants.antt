-- `with_shares` meets its contract: a turn lays one total.
use mathlib.Core.Path.{◌≡◌}
use lib.ListN.{take}
use lib.IntN.{pos}
use Rattle.laws.specs.Lists.{padded}
use Rattle.step.specs.Steps.{here_at}
use Rattle.step.proofs.with_shares.Given as goal

abbrev pub invariant-loop-r : goal.invariant-loop-r
invariant-loop-r l = l.totals ≡ padded 8 (pos 0) (take l.r (here_at l.coefs l.values l.i l.v l.trail))
