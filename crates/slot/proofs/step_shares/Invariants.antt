-- Rule by rule its share. The first r shares are laid.
use mathlib.Core.Path.{◌≡◌}
use lib.ListN.{length}
use Rattle.slot.specs.Rows.{lanes_of}
use Rattle.slot.proofs.Laid.{Copied}
use Rattle.slot.proofs.step_shares.Given as goal

abbrev pub invariant-loop-r : goal.invariant-loop-r
invariant-loop-r l = (length l.row ≡ 8) × Copied l.initial.row 0 (lanes_of l.parts.coefs l.parts.values l.v) l.row l.r
