-- `class_of` meets its contract: a walk through one bucket, from the newest class to the oldest.
use Rattle.state.specs.Pairs.{pairs}
use Rattle.classes.specs.Classes.{classes_of}
use Rattle.classes.proofs.Buckets.{Walked}
use Rattle.classes.proofs.Chains.class_of.Given as goal

abbrev pub invariant-loop-c : goal.invariant-loop-c
invariant-loop-c l = Walked (pairs l.t) (classes_of l.here l.row l.self) l.c

abbrev pub decreases-loop-c : goal.decreases-loop-c
decreases-loop-c l = l.c
