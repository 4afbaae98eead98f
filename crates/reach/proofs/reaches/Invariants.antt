-- From the last slot to the first: a slot's span and the reach behind it. The table has the reaches from a layer on.
use Rattle.problem.specs.Held.{campaign_of}
use Rattle.reach.proofs.Table.{Behind}
use Rattle.reach.proofs.reaches.Given as goal

abbrev pub invariant-loop-i : goal.invariant-loop-i
invariant-loop-i l = Behind (campaign_of l.fn.p) l.i l.table
