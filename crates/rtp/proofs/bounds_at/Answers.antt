-- `bounds_at` meets its contract: eight bytes are two fields.
use borrow.Author.Rules.{rules}
use Rattle.rtp.proofs.Bodies.{bounds_fields}
use Rattle.rtp.proofs.bounds_at.Goals as goal

pub returns : goal.returns
returns c = rw (bounds_fields c.args.cursor.rest.now) (search rules)
