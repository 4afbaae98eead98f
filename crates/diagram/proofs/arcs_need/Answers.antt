-- `arcs_need` meets its contract: at most 3072.
use native.Mathlib.Omega.{arith}
use native.Mathlib.Nat.{mul-le-mul}
use Prim.Native.Nat.{◌*◌, ◌≤◌}
use Rattle.diagram.proofs.arcs_need.Goals as goal

pub overflow_mul-result-2 : goal.overflow_mul-result-2
overflow_mul-result-2 c =
    let n : 8 * c.args.n ≤ 192 = omega (arith, c.requires.0) in
    record { fits = omega (arith, mul-le-mul n c.requires.1) }
