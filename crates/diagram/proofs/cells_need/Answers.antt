-- `cells_need` meets its contract: at most 14,000.
use native.Mathlib.Omega.{arith}
use native.Mathlib.Nat.{mul-le-mul}
use Prim.Native.Nat.{◌+◌, ◌*◌, ◌≤◌}
use Rattle.diagram.proofs.cells_need.Goals as goal

pub overflow_mul-result : goal.overflow_mul-result
overflow_mul-result c =
    let n : c.args.n + 1 ≤ 25 = omega (arith, c.requires.0) in
    record { fits = omega (arith, mul-le-mul n c.requires.2) }

pub overflow_mul-result-3 : goal.overflow_mul-result-3
overflow_mul-result-3 c =
    let n : c.args.n + 1 ≤ 25 = omega (arith, c.requires.0) in
    let m : 4 * c.args.m + 3 ≤ 35 = omega (arith, c.requires.1) in
    record { fits = omega (arith, mul-le-mul (mul-le-mul n c.requires.2) m) }
