-- `sweep` meets its contract: the down numbers, from the layer on where they stop, then the up pass with the test of the sweep.
use mathlib.Core.Path.{refl, ◌∙◌}
use mathlib.Core.Logic.{inl}
use native.Mathlib.Omega.{arith}
use Rattle.numbers.proofs.Passes.{sets_long, sized, standing_most, cells_room}
use Rattle.numbers.proofs.sweep.Goals as goal

pub downs-requires : goal.downs-requires
downs-requires c =
    let x = c.requires in
    let s = sized x.0 x.2 (sets_long x.1) x.3 in
    let most = standing_most x.0 (sets_long x.1) x.4 in
    record { sized = s; from = most; place = cells_room s c.args.from most; ready = x }

pub ups-requires : goal.ups-requires
ups-requires c =
    let x = c.requires in
    record { sized = sized x.0 x.2 (sets_long x.1) (c.downs.auto.cells ∙ x.3); ready = (x.0, x.1, record { size = omega arith }, x.2, c.downs.ensures) }

pub returns : goal.returns
returns c = let e = c.ups.ensures in record { arcs = e.arcs; cells = e.cells (inl refl) }
