-- `brennigou_needs` meets its contract: a refused file has its number.
use Rattle.std.proofs.Common.{◌∙◌}
use Rattle.brennigou.proofs.Told.{needs_refused}
use Rattle.brennigou.proofs.brennigou_needs.Goals as goal

pub returns-in-Err-clause-value : goal.returns-in-Err-clause-value
returns-in-Err-clause-value c = c.number.ensures ∙ needs_refused c.args.file.now c.args.width c.args.out.now c.in-Err.fault c.in-Err.ensures.campaign
