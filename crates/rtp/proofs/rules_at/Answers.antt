-- `rules_at` meets its contract: what the loop lays is what is read.
use mathlib.Core.Path.{◌≡◌}
use Prim.Native.Nat.{suc, ◌+◌, ◌-◌}
use native.Mathlib.Omega.{arith}
use Rattle.rtp.proofs.Rules.{laid_all}
use Rattle.rtp.proofs.rules_at.Goals as goal

pub loop-k-init : goal.loop-k-init
loop-k-init c =
    let none : c.args.m - 0 ≡ c.args.m = omega arith in
    rw (none, c.requires.none.0, c.requires.none.1) (laid_all c.args.n c.args.m c.args.cursor.rest.now c.requires.rules)

pub loop-k-preserved : goal.loop-k-preserved
loop-k-preserved c =
    let more : c.args.m - c.loop-k.k ≡ suc (c.args.m - (c.loop-k.k + 1)) = omega arith in
    rw (← c.in_ok-counted.ensures) at (rw more at c.loop-k.invariant)
