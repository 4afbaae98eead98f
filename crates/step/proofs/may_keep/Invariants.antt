-- `may_keep` meets its contract: rule by rule. The flag tells of the rules below r, and what is left from r on decides where it stands.
use Rattle.slot.specs.Tables.{leasts_in, mosts_in}
use Rattle.step.proofs.Steps.{keeps_at, Flagged}
use Rattle.step.proofs.may_keep.Given as goal

abbrev pub invariant-loop-r : goal.invariant-loop-r
invariant-loop-r l = Flagged (keeps_at (leasts_in l.coefs) (mosts_in l.coefs) l.cells l.at l.totals) l.m l.r l.kept
