-- Step by step the shares of the slot and the price. The first v steps are laid.
use mathlib.Core.Path.{◌≡◌}
use lib.ListN.{length}
use lib.IntN.{pos, ◌*ℤ◌}
use Rattle.slot.specs.Rows.{lanes_of}
use Rattle.slot.proofs.Laws.{Priced}
use Rattle.slot.proofs.slot_row.Given as goal

abbrev pub invariant-loop-v : goal.invariant-loop-v
invariant-loop-v l = (length l.row ≡ 72) × Priced (lanes_of l.parts.coefs l.parts.values) (λ k. l.weight *ℤ pos k) l.row l.v
