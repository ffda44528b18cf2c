-- The two outputs of a query, and answers over their fronts.
use Rattle.std.specs.Prelude.{◌≡◌, ℕ, ◌-◌, ◌<◌, List, ◌++◌, map, length, take, drop, slice_index, Float}
use Rattle.definition.specs.Lists.{over}
use Rattle.definition.specs.Metric.{whole}
use Rattle.definition.specs.Beam.{Item, item}
use Rattle.laws.specs.Items.{ids_of}
use Rattle.beam.specs.Keys.{id_of, dist_of, item_of}

-- the two outputs
pub record Pairs : Type 0 where
  pub ids : List ℕ
  pub dists : List Float

abbrev pub pairs : List ℕ → List Float → Pairs
pairs ids dists = record { ids = ids; dists = dists }

-- what the first `len` keys hold
abbrev pub items_in : List ℕ → ℕ → List Item
items_in keys len = map item_of (take len keys)

-- the first `count` keys hold ids below n
abbrev pub LowIds : List ℕ → ℕ → ℕ → Type 0
LowIds keys count n = (i : ℕ) → i < count → id_of (slice_index keys i) < n

-- what a key holds whose id counts from the last of n entries back: such keys rise with falling ids
abbrev pub mirrored_item : ℕ → ℕ → Item
mirrored_item n key = item (dist_of key) (n - 1 - id_of key)

-- the distances of items, as answers give them
abbrev pub dists_of : List Item → List Float
dists_of l = map (λ (c : Item). whole c.dist) l

-- the answers, over the front of the outputs
pub record Listed (answers : List Item) (before after : Pairs) : Type 0 where
  pub ids_are : after.ids ≡ over (ids_of answers) before.ids
  pub dists_are : after.dists ≡ over (dists_of answers) before.dists

-- i of the answers are listed so far
pub record ListedTo (i : ℕ) (answers : List Item) (before now : Pairs) : Type 0 where
  pub ids_size : length now.ids ≡ length before.ids
  pub dists_size : length now.dists ≡ length before.dists
  pub ids_are : now.ids ≡ take i (ids_of answers) ++ drop i before.ids
  pub dists_are : now.dists ≡ take i (dists_of answers) ++ drop i before.dists
