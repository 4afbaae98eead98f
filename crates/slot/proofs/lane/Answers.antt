-- A coefficient within 1,000 times a step below 8, and a bit.
use Prim.Native.Nat.{ℕ, ◌/◌, ◌%◌, ◌^◌, ◌<◌}
use native.Mathlib.Omega.{arith}
use Rattle.problem.proofs.Shares.{times_fits}
use Rattle.slot.proofs.Laws.{lane_fits, lane_is, lane_within}
use Rattle.slot.proofs.lane.Goals as goal

bit_low : (a : ℕ) → a % 2 < 2
bit_low a = omega arith

pub overflow_mul-result : goal.overflow_mul-result
overflow_mul-result c = times_fits c.requires.1 c.requires.0 tt

pub overflow_add-result : goal.overflow_add-result
overflow_add-result c = lane_fits c.requires.1 c.requires.0 (bit_low (c.args.value / 2 ^ c.args.v))

pub returns : goal.returns
returns c =
    let low = bit_low (c.args.value / 2 ^ c.args.v) in
    let is = lane_is c.requires.1 c.requires.0 low in
    (is, rw is (lane_within c.requires.1 c.requires.0 low))
