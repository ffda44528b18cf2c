-- What the first samples add is no more than the distance: so where it is above a bound, the distance is too. What all of them add is the distance.
use Rattle.std.proofs.Common.{◌≡◌, List, ℕ, ◌≤◌, ◌<◌, length, arith}
use Rattle.definition.specs.Metric.{metric}
use Rattle.whole.specs.Whole.{farthest}
use Rattle.theory.specs.Metric.{Bytes, good_most, byte_metric}
use Rattle.metric.specs.Stretches.{Adds, adds_all, adds_small}
use Rattle.metric_within.specs.Within.{Within}

module _ (a b : List ℕ) (p : Bytes a) (q : Bytes b) (few : length a ≤ 256) where
  -- what any of the samples add is small
  pub front_small : (to r : ℕ) → Adds a b 0 to r → r ≤ farthest
  front_small to r h = adds_small a b 0 to r p q few h

  pub front_within : (to most r : ℕ) → Adds a b 0 to r → most < r → Within most (metric a b) r
  front_within to most r h l =
      record { small = good_most byte_metric a b few p q; is = λ k. absurd (omega arith); beyond = λ k. omega (arith, h.is) }

  pub all_within : (most r : ℕ) → Adds a b 0 (length a) r → Within most (metric a b) r
  all_within most r h =
      let e : r ≡ metric a b = adds_all a b r h in
      record { small = good_most byte_metric a b few p q; is = λ k. e; beyond = λ k. omega arith }
