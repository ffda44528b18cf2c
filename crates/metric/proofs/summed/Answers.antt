-- `metric::summed` meets its contract: what all samples add is the distance. Assumes nothing.
use Rattle.std.proofs.Common.{ℕ, ◌≤◌, subst}
use Rattle.whole.specs.Whole.{farthest}
use Rattle.metric.specs.Stretches.{adds_all, adds_small}
use Rattle.metric.proofs.summed.Goals as goal

pub returns : goal.returns
returns c =
    let is = adds_all _ _ _ c.stretch.ensures in
    let small = adds_small _ _ _ _ _ (λ k. (c.type_inv.a k).fits) (λ k. (c.type_inv.b k).fits) c.requires.1 c.stretch.ensures in
    record { is = is; small = subst (λ (n : ℕ). n ≤ farthest) is small }
