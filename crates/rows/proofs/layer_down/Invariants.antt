-- `layer_down` meets its contract: what the nodes from j on bring to the row as it stands is what all bring to the first.
use Rattle.std.proofs.Common.{◌≡◌, ◌-◌, ◌*◌, drop}
use Rattle.laws.specs.Lists.{parted}
use Rattle.lent.specs.Passes.{bring_layer}
use Rattle.rows.proofs.layer_down.Given as goal

abbrev pub invariant-loop-j : goal.invariant-loop-j
invariant-loop-j l = bring_layer l.row l.here l.j (parted (l.w - l.j) 8 (drop (l.j * 8) l.arcs)) l.next ≡ bring_layer l.row l.here 0 (parted l.w 8 l.arcs) l.fn.next
