-- `among` meets its contract: its body is these fields.
use borrow.Author.Rules.{rules}
use Rattle.rtp.proofs.Bodies.{among_fields}
use Rattle.rtp.proofs.among.Goals as goal

pub returns-in_err-bounds : goal.returns-in_err-bounds
returns-in_err-bounds c = rw (among_fields c.args.n c.args.body.rest.now) (search rules)

pub returns-then-not-slots_are_right : goal.returns-then-not-slots_are_right
returns-then-not-slots_are_right c = rw (among_fields c.args.n c.args.body.rest.now) (search rules)

pub returns : goal.returns
returns c = rw (among_fields c.args.n c.args.body.rest.now) (search rules)
