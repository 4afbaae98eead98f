-- Each rule's total decides in turn: the rules that are left, from k on, decide as all did.
use mathlib.Core.Path.{◌≡◌}
use lib.ListN.{drop}
use Rattle.laws.specs.Lists.{every, from}
use Rattle.judge.proofs.Lawful.{kept_at}
use Rattle.judge.proofs.keeps_rules.Given as goal

abbrev pub invariant-loop-k : goal.invariant-loop-k
invariant-loop-k l = every (kept_at l.plan l.problem) (from 0 l.problem.rules) ≡ every (kept_at l.plan l.problem) (drop l.k (from 0 l.problem.rules))
