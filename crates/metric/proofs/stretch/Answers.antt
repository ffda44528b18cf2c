-- `metric::stretch` meets its contract: the sixteens, and with a rest that too, are what its samples add. Assumes nothing.
use Rattle.std.proofs.Common.{arith}
use Rattle.metric.specs.Stretches.{adds_join, adds_small}
use Rattle.metric.proofs.stretch.Goals as goal

pub overflow_add-result : goal.overflow_add-result
overflow_add-result c =
    let all = adds_join _ _ c.args.from _ c.args.to _ _ c.sixteens-most.ensures c.rest.ensures in
    omega (arith, adds_small _ _ _ _ _ (λ k. (c.type_inv.a k).fits) (λ k. (c.type_inv.b k).fits) c.requires.few all)
