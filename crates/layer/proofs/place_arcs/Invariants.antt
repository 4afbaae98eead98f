-- `place_arcs` meets its contract: one byte after the other gets its place.
use mathlib.Core.List.{map}
use Rattle.laws.proofs.Reached.{Reached}
use Rattle.layer.specs.Places.{builder_of, placed}
use Rattle.layer.proofs.place_arcs.Given as goal

abbrev pub invariant-loop-c : goal.invariant-loop-c
invariant-loop-c l = Reached (map (placed (builder_of l.fn.builder) l.fn.w) l.fn.arcs) l.fn.arcs l.arcs l.c-index
