-- `lead` meets its contract: at each turn the first i steps of the plan are written, and the node that they lead to is next.
use mathlib.Core.Path.{◌≡◌}
use lib.ListN.{length}
use Rattle.diagram.proofs.Leading.{Way}
use Rattle.diagram.proofs.lead.Given as goal

abbrev pub invariant-loop-i : goal.invariant-loop-i
invariant-loop-i l = Way l.fn.p l.w l.initial.plan l.plan l.i l.j × (length l.plan ≡ length l.initial.plan)
