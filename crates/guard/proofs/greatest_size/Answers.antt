-- 1 or 0, or the size of the coefficient times the last step.
use Rattle.std.proofs.Common.{arith, ◌≡◌, pos, nat_abs, get_or, take, to_z-of_z}
use Rattle.std.proofs.lemmas.Int.{ints}
use native.Mathlib.Nat.{mul-le-mul}
use lib.Seq.{get_or-take}
use Rattle.meaning.specs.Plan.{steps_of}
use Rattle.guard.proofs.Steps.{among_most, weighed_greatest}
use Rattle.guard.proofs.greatest_size.Goals as goal

pub returns-in-Among : goal.returns-in-Among
returns-in-Among c =
    let a = c.in-Among in
    rw a.is (record { is = λ n l. c.counted.ensures; most = omega (arith, c.counted.ensures, among_most a.values a.slots c.args.i (steps_of 8 c.args.set)) })

pub returns-in-Sum : goal.returns-in-Sum
returns-in-Sum c =
    let i = c.args.i in
    let coefs = c.in-Sum.coefs in
    let size : c.size_of.result ≡ nat_abs (get_or coefs i (pos 0)) = search (arith, ints, to_z-of_z, c.size_of.ensures.0) in
    rw c.in-Sum.is (record {
      is = λ n l. rw (weighed_greatest (take n coefs) i (steps_of 8 c.args.set), get_or-take n coefs i (pos 0) l, size, c.last_step.ensures.is);
      most = omega (arith, mul-le-mul c.size_of.ensures.1 c.last_step.ensures.most);
    })
