-- Each slot adds its share, at most 7,000: the total so far, with what is left, is the whole sum.
use lib.ListN.{length}
use Rattle.meaning.specs.Problem.{share_of}
use Rattle.problem.specs.Held.{said_terms}
use Rattle.judge.proofs.Sums.{Sums}
use Rattle.judge.proofs.total_of.Given as goal

abbrev pub invariant-loop-i : goal.invariant-loop-i
invariant-loop-i l = Sums (share_of (said_terms (length l.plan) l.terms)) 7000 l.plan l.total l.i
