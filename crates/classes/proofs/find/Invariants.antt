-- `find` meets its contract: one child after the other gets its class.
use mathlib.Core.List.{map}
use Prim.Native.Nat.{◌*◌}
use Rattle.laws.specs.Lists.{from}
use Rattle.state.specs.Pairs.{pairs}
use Rattle.classes.specs.Classes.{arrival_at}
use Rattle.classes.proofs.Turns.{Sought}
use Rattle.classes.proofs.find.Given as goal

abbrev pub invariant-loop-f : goal.invariant-loop-f
invariant-loop-f l = Sought l.here l.row (map (arrival_at l.here l.row l.set (pairs l.limit)) (from 0 (l.nodes * 8))) l.fn.arcs l.arcs l.chains l.f
