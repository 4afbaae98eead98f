-- Each slot adds its price, at most 70,000: the cost so far, with what is left, is the whole sum.
use Rattle.meaning.specs.Problem.{weighed}
use Rattle.judge.proofs.Sums.{Sums}
use Rattle.judge.proofs.cost_of.Given as goal

abbrev pub invariant-loop-i : goal.invariant-loop-i
invariant-loop-i l = Sums (weighed l.weights) 70000 l.plan l.cost l.i
