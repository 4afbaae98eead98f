-- Two states are the same where their pairs are.
use borrow.Author.Rules.{rules}
use Rattle.std.proofs.lemmas.Slice.Eq.{slice_eq-Decides}
use Rattle.state.proofs.Turns.{same_pairs}
use Rattle.state.proofs.same.Goals as goal

pub returns : goal.returns
returns c = same_pairs c.args.s.at c.args.u.at c.eq.result (slice_eq-Decides (λ a b. search rules) _ _ _ c.eq.ensures)
