-- What the code says of a distance.
use Rattle.std.specs.Prelude.{◌≡◌, List, map, ℕ, ◌+◌, ◌*◌, ◌≤◌, ◌<◌, length, get_or}
use Rattle.whole.specs.Whole.{farthest}

-- the number is the distance d
pub record Exact (d r : ℕ) : Type 0 where
  pub is : r ≡ d
  pub small : d ≤ farthest

-- the flat vectors reach to the end of entry i
pub record VectorIn (dim : ℕ) (vectors : List ℕ) (i : ℕ) : Type 0 where
  pub reach : i * dim + dim ≤ length vectors

-- the numbers are the distances d of the ids, one by one
pub record Distances (d : ℕ → ℕ) (ids dists : List ℕ) : Type 0 where
  pub are : dists ≡ map d ids
  pub small : (j : ℕ) → j < length ids → d (get_or ids j 0) ≤ farthest
