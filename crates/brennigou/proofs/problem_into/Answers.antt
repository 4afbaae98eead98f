-- `problem_into` meets its contract: what was read has the campaign that the file says, and no fault.
use Rattle.brennigou.proofs.Opened.{campaign_found, sound_found}
use Rattle.brennigou.proofs.problem_into.Goals as goal

pub returns-clause-campaign : goal.returns-clause-campaign
returns-clause-campaign c = campaign_found c.args.file.now c.read_into.result c.read_into.new.problem c.read_into.ensures

pub returns-clause-sound : goal.returns-clause-sound
returns-clause-sound c = sound_found c.args.file.now c.read_into.result c.read_into.new.problem c.read_into.ensures
