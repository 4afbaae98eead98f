-- `which` meets its contract: the choice is that of the campaign that the file says.
use Rattle.std.proofs.Common.{◌∙◌}
use Rattle.brennigou.proofs.Opened.{better_read}
use Rattle.brennigou.proofs.which.Goals as goal

pub returns-in-Ok : goal.returns-in-Ok
returns-in-Ok c = c.better_of.ensures ∙ better_read c.args.file.now c.in-Ok.ensures.campaign c.args.standing.now c.args.new.now
