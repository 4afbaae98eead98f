-- `put_lanes` meets its contract: the lanes go in as a whole.
use native.Mathlib.Omega.{arith}
use borrow.Author.Rules.{rules}
use Rattle.std.proofs.lemmas.Slice.{put_mid-paste}
use Rattle.lanes.proofs.put_lanes.Goals as goal

pub returns : goal.returns
returns c = put_mid-paste _ _ _ _ c.args.x 17 (search rules) (omega arith) (search rules)
