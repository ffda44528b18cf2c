-- `summed_within`: what the first quarter adds, and what it adds with the other samples.
use Rattle.std.proofs.Common.{◌+◌, ◌*◌, ◌/◌, length, arith}
use Rattle.metric.specs.Stretches.{adds_join}
use Rattle.metric_within.proofs.Reaching.{front_small, front_within, all_within}
use Rattle.metric_within.proofs.summed_within.Goals as goal

pub returns-then-most-near : goal.returns-then-most-near
returns-then-most-near c =
    front_within _ _ (λ k. (c.type_inv.a k).fits) (λ k. (c.type_inv.b k).fits) c.requires.1 ((length c.args.a.now + 48) / 64 * 16) _ _
    c.stretch-near.ensures c.if-most-near.true

pub overflow_add-result : goal.overflow_add-result
overflow_add-result c =
    let all = adds_join _ _ 0 _ (length c.args.a.now) _ _ c.stretch-near.ensures c.stretch.ensures in
    omega (arith, front_small _ _ (λ k. (c.type_inv.a k).fits) (λ k. (c.type_inv.b k).fits) c.requires.1 _ _ all)

pub returns : goal.returns
returns c =
    let all = adds_join _ _ 0 _ (length c.args.a.now) _ _ c.stretch-near.ensures c.stretch.ensures in
    all_within _ _ (λ k. (c.type_inv.a k).fits) (λ k. (c.type_inv.b k).fits) c.requires.1 _ _ all
