-- `first_step` meets its contract: from step v on the first that is left is the first of all.
use mathlib.Core.Path.{◌≡◌}
use lib.ListN.{drop}
use Rattle.diagram.specs.Leading.{first_cell}
use Rattle.diagram.proofs.first_step.Given as goal

abbrev pub invariant-loop-v : goal.invariant-loop-v
invariant-loop-v l = first_cell l.m l.weight l.cells l.cost 0 l.arcs ≡ first_cell l.m l.weight l.cells l.cost l.v (drop l.v l.arcs)
