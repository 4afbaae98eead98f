use mathlib.Core.Path.{refl}
use mathlib.Core.List.{map}
use mathlib.Core.Option.{none}
use Prim.Native.Nat.{◌*◌}
use native.Mathlib.Omega.{arith}
use Rattle.lent.proofs.Places.{made_at, made_long}
use lib.ListN.{get_or-replicate}
use Rattle.laws.specs.Lists.{from}
use Rattle.state.specs.Pairs.{pairs}
use Rattle.classes.specs.Classes.{arrival_at}
use Rattle.classes.proofs.Turns.{sought_start, sought_more, sought_end}
use Rattle.classes.proofs.find.Goals as goal

pub loop-f-init : goal.loop-f-init
loop-f-init c =
    let a = c.args in
    sought_start a.here.now a.row.now (map (arrival_at a.here.now a.row.now a.set (pairs a.limit)) (from 0 (a.nodes * 8))) a.arcs.now _ _ _ refl refl refl (λ s h. get_or-replicate 256 s 0 0 h)

pub loop-f-preserved : goal.loop-f-preserved
loop-f-preserved c =
    let a = c.args in
    let f = c.loop-f.f in
    let h = c.loop-f-test.true in
    let g = arrival_at a.here.now a.row.now a.set (pairs a.limit) in
    let n = made_long g (a.nodes * 8) in
    rw c.byte_of.ensures (sought_more (rw n c.requires.2) c.loop-f.invariant (g f) (rw n h) (made_at g (a.nodes * 8) f none h) c.class_at-class.ensures)

pub returns : goal.returns
returns c =
    let a = c.args in
    let g = arrival_at a.here.now a.row.now a.set (pairs a.limit) in
    let n = made_long g (a.nodes * 8) in
    let all = rw n at (sought_end (rw n c.requires.2) c.loop-f.invariant (rw n (omega arith))) in
    record { value = all.0; arcs = all.1 }
