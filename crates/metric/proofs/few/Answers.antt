-- `metric::few` meets its contract. The loop's invariant: what is summed is what the samples passed so far add. Assumes nothing.
use Rattle.std.proofs.Common.{◌+◌, arith}
use Rattle.metric.specs.Stretches.{adds_small}
use Rattle.metric.proofs.Sums.{adds_more}
use Rattle.metric.proofs.few.Goals as goal

pub overflow_add-sum : goal.overflow_add-sum
overflow_add-sum c =
    let more =
    adds_more _ _ _ _ (c.loop-i.i + 1) _ _ c.requires.alike (omega (arith, c.requires.inside)) (omega arith) c.squared_alone-sum.ensures
    c.loop-i.invariant in
    omega (arith, adds_small _ _ _ _ _ (λ k. (c.type_inv.a k).fits) (λ k. (c.type_inv.b k).fits) c.requires.few more)

pub loop-i-preserved : goal.loop-i-preserved
loop-i-preserved c =
    adds_more _ _ _ _ _ _ _ c.requires.alike (omega (arith, c.requires.inside)) (omega arith) c.squared_alone-sum.ensures c.loop-i.invariant
