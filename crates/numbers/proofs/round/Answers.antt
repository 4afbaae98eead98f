-- `round` meets its contract: the down numbers, from the layer on where they stop, then the up pass with the test of a round.
use mathlib.Core.Path.{ap, ◌∙◌}
use mathlib.Core.Logic.{inr}
use mir.Facts.{to_z-of_z}
use Rattle.laws.specs.Z.{back_within}
use Rattle.meaning.specs.Filter.{within, drops}
use Rattle.meaning.specs.Buffers.{arcs_in}
use Rattle.problem.specs.Held.{campaign_of}
use Rattle.lent.specs.Wide.{laid}
use Rattle.numbers.proofs.Passes.{sets_long, sized, standing_most, cells_room, stands_next}
use Rattle.numbers.proofs.round.Goals as goal

pub downs-requires : goal.downs-requires
downs-requires c =
    let x = c.requires in
    let s = sized x.0 x.3 (sets_long x.1) x.4 in
    let most = standing_most x.0 (sets_long x.1) x.5 in
    record { sized = s; from = most; place = cells_room s c.args.from most; ready = (x.0, x.1, x.3, x.4, x.5) }

pub ups-requires : goal.ups-requires
ups-requires c =
    let x = c.requires in
    record { sized = sized x.0 x.3 (sets_long x.1) (c.downs.auto.cells ∙ x.4); ready = (x.0, x.1, back_within x.2 tt, x.3, c.downs.ensures) }

pub returns : goal.returns
returns c =
    let x = c.requires in
    let q = campaign_of c.args.p in
    let e = c.ups.ensures in
    let fell = e.first in
    record {
      arcs = e.arcs ∙ ap (λ z. laid 8 c.args.w (drops (within z) q (arcs_in q c.args.w c.args.arcs.now))) (to_z-of_z c.ranges.ceiling);
      fixed = λ o. (fell.none o, e.cells (inr o));
      stands = λ h f. stands_next x.0 (sets_long x.1) x.3 f h c.downs.ensures fell;
      long = (fell.most, fell.long ∙ c.downs.auto.cells ∙ x.4);
    }
