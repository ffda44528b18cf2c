-- What is known of a distance that was worked out only as far as is needed: a number that is not above `most` is the distance, and one that is above says that
-- the distance is too.
use Rattle.std.specs.Prelude.{◌≡◌, ℕ, ◌≤◌, ◌<◌}
use Rattle.whole.specs.Whole.{farthest}

-- r tells the distance d as far as `most`
pub record Within (most d r : ℕ) : Type 0 where
  pub small : d ≤ farthest
  pub is : r ≤ most → r ≡ d
  pub beyond : most < r → most < d
