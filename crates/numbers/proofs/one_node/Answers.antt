-- `one_node` meets its contract: 17 lanes of zeros stand for the numbers of any count of rules.
use Rattle.numbers.proofs.Passes.{one_row}
use Rattle.numbers.proofs.one_node.Goals as goal

pub returns : goal.returns
returns c = one_row c.args.m c.put_lanes.ensures
