-- `metric::rest` meets its contract: the eight and those after it, or the few, are what its samples add. Assumes nothing.
use Rattle.std.proofs.Common.{◌+◌, arith}
use Rattle.metric.specs.Stretches.{adds_join, adds_small}
use Rattle.metric.proofs.rest.Goals as goal

pub overflow_add-result : goal.overflow_add-result
overflow_add-result c =
    let all = adds_join _ _ c.args.from (c.args.from + 8) c.args.to _ _ c.eight.ensures c.few-2.ensures in
    omega (arith, adds_small _ _ _ _ _ (λ k. (c.type_inv.a k).fits) (λ k. (c.type_inv.b k).fits) c.requires.few all)
