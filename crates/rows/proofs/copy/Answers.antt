-- What the turns have copied is all of it.
use Rattle.std.proofs.Common.{pos, arith}
use Rattle.laws.proofs.Reached.{reached_all}
use Rattle.rows.proofs.copy.Goals as goal

pub returns : goal.returns
returns c = reached_all c.loop-k.invariant (pos 0) (omega (arith, c.loop-k.invariant.long, c.loop-k.auto.k-end, c.loop-k-test.false)) c.requires
