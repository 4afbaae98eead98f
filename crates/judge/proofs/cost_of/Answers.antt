use Rattle.std.proofs.Common.{arith, get_or, pos}
use Rattle.laws.specs.Z.{Within, back_is}
use Rattle.laws.proofs.Each.{each_at}
use Rattle.judge.proofs.Sums.{sums_more}
use Rattle.judge.proofs.cost_of.Goals as goal

pub loop-i-preserved : goal.loop-i-preserved
loop-i-preserved c =
    let weight : Within 10000 (get_or c.args.weights.now c.loop-i.i (pos 0)) = each_at (Within 10000) c.args.weights.now c.loop-i.i (pos 0) (record { size = omega arith }) c.requires.weights in
    sums_more c.loop-i.invariant c.price-cost.ensures.1 c.loop-i-test.true c.requires.steps.count tt
    (rw (back_is weight tt, c.from.ensures) at c.price-cost.ensures.0)
