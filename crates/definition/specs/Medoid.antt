-- Part 8. Medoid: f32 distances to the pivots added in pivot order, rounding at each sum. Least score wins, lower id on equality.
use Rattle.std.specs.Prelude.{ℕ, zero, suc, cond, List, [], ◌∷◌, Float}
use Rattle.std.specs.Float.{binary32}
use Rattle.std.specs.Float.Ieee.{add, lt}
use Rattle.definition.specs.Metric.{whole}
use Rattle.definition.specs.Floats.{nought}

unfoldable pub score_from : (ℕ → ℕ) → Float → List ℕ → Float
score_from d total [] = total
score_from d total (p ∷ ps) = score_from d (add binary32 total (whole (d p))) ps

unfoldable pub score : (ℕ → ℕ → ℕ) → List ℕ → ℕ → Float
score pair pivots i = score_from (pair i) nought pivots

-- the least score so far, and whose
pub record Leader : Type 0 where
  pub id : ℕ
  pub total : Float

unfoldable pub challenge : Leader → ℕ → Float → Leader
challenge l i s = cond (lt s l.total) (record { id = i; total = s }) l

-- the entries i, i + 1, .., k of them, against the leader
unfoldable pub leader : (ℕ → Float) → Leader → ℕ → ℕ → Leader
leader scores l i zero = l
leader scores l i (suc k) = leader scores (challenge l i (scores i)) (suc i) k

unfoldable pub medoid : (ℕ → ℕ → ℕ) → List ℕ → ℕ → ℕ
medoid pair pivots zero = 0
medoid pair pivots (suc n) = (leader (score pair pivots) (record { id = 0; total = score pair pivots 0 }) 1 n).id
