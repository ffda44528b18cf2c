-- What pruning's functions say.
use Rattle.std.specs.Prelude.{◌≡◌, List, ◌++◌, ℕ, ◌≤◌, Float, length, take, drop}
use Rattle.definition.specs.Metric.{vector, between}
use Rattle.definition.specs.Floats.{one}
use Rattle.definition.specs.Prune.{shade_all, rounds, target_of, most_rounds}
use Rattle.whole.specs.Whole.{limit}
use Rattle.metric.specs.Exact.{VectorIn}
use Rattle.laws.specs.Paired.{items_of}
use Rattle.laws.specs.All.{All}

-- candidates that may be measured: as many ids as distances, each id an entry, each distance small
pub record Measurable (dim : ℕ) (vectors ids dists : List ℕ) : Type 0 where
  pub same : length ids ≡ length dists
  pub narrow : dim ≤ 256
  pub rows : All (VectorIn dim vectors) ids
  pub small : All (λ (d : ℕ). d ≤ limit) dists

-- the factors from place `from` on, shaded by the taken entry
unfoldable pub shaded_from : ℕ → List ℕ → List ℕ → List ℕ → Float → ℕ → ℕ → List Float → List Float
shaded_from dim vectors ids dists target taken from fs =
    take from fs ++ shade_all (between dim vectors) target taken (drop from (items_of ids dists)) (drop from fs)

-- the same, whichever entry it is whose vector is the query
pub record Shaded (dim : ℕ) (vectors query ids dists : List ℕ) (target : Float) (from : ℕ) (fs₀ fs : List Float) : Type 0 where
  pub are : (taken : ℕ) → query ≡ vector dim vectors taken → fs ≡ shaded_from dim vectors ids dists target taken from fs₀

-- the ids that the rounds take, from the factors given
unfoldable pub rounds_of : ℕ → List ℕ → List ℕ → List ℕ → ℕ → Float → List Float → List ℕ
rounds_of dim vectors ids dists degree alpha fs = rounds (between dim vectors) (target_of alpha) most_rounds one degree (items_of ids dists) fs

-- r words of the row are those ids
pub record Taken (row : List ℕ) (r degree : ℕ) (ids : List ℕ) : Type 0 where
  pub few : r ≤ degree
  pub are : take r row ≡ ids
