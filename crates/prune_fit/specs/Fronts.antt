-- A node's ids, as they are lent to be fitted to its row.
use Rattle.std.specs.Prelude.{ℕ, ◌<◌, get_or}
use mathlib.Core.List.{List, Memᴰ as Mem}
use Rattle.laws.specs.Members.{mem-at}
use Rattle.laws.specs.Words.{Below}

-- what is said of each member, said of each place
pub members_below : (n : ℕ) (xs : List ℕ) → ((z : ℕ) → Mem z xs → z < n) → Below n xs
members_below n xs f k h = f (get_or xs k 0) (mem-at 0 xs k h)
