-- `sum` meets its contract: its body is these fields.
use borrow.Author.Rules.{rules}
use Rattle.rtp.proofs.Bodies.{sum_fields}
use Rattle.rtp.proofs.sum.Goals as goal

pub returns-then-not-coefs_are_right : goal.returns-then-not-coefs_are_right
returns-then-not-coefs_are_right c = rw (sum_fields c.args.n c.args.body.rest.now) (search rules)

pub returns : goal.returns
returns c = rw (sum_fields c.args.n c.args.body.rest.now) (search rules)
