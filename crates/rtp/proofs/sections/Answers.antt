-- `sections` meets its contract: an accepted file has so many slots and rules as its head says.
use borrow.Author.Rules.{rules}
use lib.Seq.{length-take-le}
use Rattle.rtp.proofs.Rules.{rules_read}
use Rattle.rtp.proofs.sections.Goals as goal

pub returns : goal.returns
returns c =
    let read = rules_read c.args.n c.args.m c.in_ok-weights.next.rest.now c.in_ok-next.ensures in
    let count = length-take-le c.args.n c.in_ok-sets.sets (search rules) in
    search rules
