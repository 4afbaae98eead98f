-- `filter` meets its contract: behind k rounds the bytes are those of k rounds, the down numbers of the layers up to `from` stand in the cells, and a round that drops nothing is the last.
use mathlib.Core.Path.{◌≡◌}
use lib.ListN.{length}
use Rattle.meaning.specs.Diagram.{relaxed, built}
use Rattle.meaning.specs.Filter.{rounds}
use Rattle.problem.specs.Held.{campaign_of}
use Rattle.lent.specs.Wide.{laid}
use Rattle.numbers.specs.Whole.{Standing}
use Rattle.diagram.proofs.filter.Given as goal

abbrev pub invariant-loop-round : goal.invariant-loop-round
invariant-loop-round l =
    let q = campaign_of l.p in
    (length l.arcs ≡ length l.initial.arcs) × (length l.cells ≡ length l.initial.cells) × (l.arcs ≡ laid 8 l.w (rounds l.ceiling q l._round (built relaxed q l.w))) × Standing q l.w l.from l.arcs l.cells
