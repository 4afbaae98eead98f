use mathlib.Core.Path.{◌≡◌}
use lib.ListN.{length}
use Prim.Native.Nat.{◌+◌}
use mir.Syntax.{w32}
use mir.Val.{to_z}
use Rattle.laws.specs.Z.{fits32, widen, back_is}
use Rattle.state.specs.Pairs.{pairs}
use Rattle.state.proofs.Sizes.{mapped}
use Rattle.state.proofs.Keys.{key_size, key_more, step_is, step_size}
use Rattle.state.proofs.key.Goals as goal

pub overflow_mul-key : goal.overflow_mul-key
overflow_mul-key c =
    let s = c.args.s.at in
    let k = c.loop-k.k in
    rw (step_is s k c.requires) (fits32 (widen tt (step_size s k c.requires)))

pub overflow_add-key : goal.overflow_add-key
overflow_add-key c =
    let head = c.loop-k in
    let s = c.args.s in
    let m : length s.at ≡ 8 = search mapped in
    rw (key_more s.at head.k c.requires (to_z w32 head.key-bits) m c.loop-k-test.true head.invariant) (fits32 (widen tt (key_size (head.k + 1) (pairs s) c.requires)))

pub loop-k-preserved : goal.loop-k-preserved
loop-k-preserved c =
    let head = c.loop-k in
    let s = c.args.s in
    let m : length s.at ≡ 8 = search mapped in
    rw (key_more s.at head.k c.requires (to_z w32 head.key-bits) m c.loop-k-test.true head.invariant) (back_is (key_size (head.k + 1) (pairs s) c.requires) tt)
