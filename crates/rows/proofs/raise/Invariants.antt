-- `raise` meets its contract: a turn raises one node and tests its arcs.
use Rattle.rows.proofs.UpLayer.{Lifted}
use Rattle.rows.proofs.raise.Given as goal

abbrev pub invariant-loop-j : goal.invariant-loop-j
invariant-loop-j l = Lifted l.w l.row l.next l.room l.fn.arcs l.fn.here l.arcs l.here l.fell l.j
