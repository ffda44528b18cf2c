-- Part 9, with the order of 3/13. Search: greedy with the beam raised to at least 1; answers by distance, then the higher id, cut to k.
-- The answers' order is said here and nowhere else: what the beam keeps is by the lower id (`nearer`, Beam), and does not turn on it.
use Rattle.std.specs.Prelude.{ℕ, max, Bool, ◌&&◌, ◌||◌, List, ltb, eqb, take}
use Rattle.definition.specs.Lists.{sort}
use Rattle.definition.specs.Beam.{Item}
use Rattle.definition.specs.Greedy.{State, greedy}

-- x is listed before y: by distance, then the higher id, since ids rise with enrolment
unfoldable pub listed_first : Item → Item → Bool
listed_first x y = ltb x.dist y.dist || (eqb x.dist y.dist && ltb y.id x.id)

-- the items in the answers' order, cut to k
unfoldable pub ranked : ℕ → List Item → List Item
ranked k items = take k (sort listed_first items)

unfoldable pub searched : (ℕ → ℕ) → (ℕ → List ℕ) → ℕ → ℕ → ℕ → State
searched d rows n beam start = greedy d rows n (max beam 1) start

unfoldable pub answers : (ℕ → ℕ) → (ℕ → List ℕ) → ℕ → ℕ → ℕ → ℕ → List Item
answers d rows n beam start k = ranked k (searched d rows n beam start).work
