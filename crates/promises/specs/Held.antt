-- Demand 3, second sentence, over what a caller holds after a search that was not refused: the front of the two outputs, `count` places of each, and of the
-- run of records. That these are the answers of the definition, that each id has its own distance beside it, and what they tell and exclude.
use Rattle.std.specs.Prelude.{ℕ, ◌-◌, ◌<◌, max, min, ◌≡◌, ◌⊎◌, Float, take}
use mathlib.Core.List.{List, map}
use Rattle.std.proofs.Math.ListN.{length, get_or}
use Rattle.definition.specs.Metric.{whole}
use Rattle.definition.specs.Floats.{nought}
use Rattle.definition.specs.Refusals.{SearchCall}
use Rattle.definition.specs.Outcome.{found_ids, found_dists, found_records}
use Rattle.definition.specs.Outcome.{RecordsOut}
use Rattle.theory.specs.search.Tells.{SearchTells, Excludes}
use Rattle.promises.specs.Searching.{rows_of, distance_to, last_distance}

-- entry i is answered before entry j: it is nearer, or as near and newer
abbrev pub FirstOf : SearchCall → ℕ → ℕ → Type 0
FirstOf c i j = (distance_to c i < distance_to c j) ⊎ ((distance_to c i ≡ distance_to c j) × (j < i))

-- `count` answers stand at the front of `ids` and `dists`: those of the definition, at least one unless k is 0, each id below n and with its own distance
-- beside it, by distance and then the higher id; the distance of the last one stands last; and they tell and exclude what demand 3 says
pub record Held (c : SearchCall) (count : ℕ) (ids : List ℕ) (dists : List Float) : Type 0 where
  pub ids_are : take count ids ≡ found_ids c
  pub dists_are : take count dists ≡ found_dists c
  pub size : length (take count ids) ≡ count
  pub some : 0 < c.k → 0 < count
  pub below : (i : ℕ) → i < count → get_or ids i 0 < c.n
  pub own : (i : ℕ) → i < count → get_or dists i nought ≡ whole (distance_to c (get_or ids i 0))
  pub ordered : (i j : ℕ) → i < j → j < count → FirstOf c (get_or ids i 0) (get_or ids j 0)
  pub last : 0 < count → last_distance c ≡ distance_to c (get_or ids (count - 1) 0)
  pub last_beside : 0 < count → get_or dists (count - 1) nought ≡ whole (last_distance c)
  pub tells : SearchTells (rows_of c) (distance_to c) c.start (min c.k (max c.beam 1)) (take count ids) (last_distance c)
  pub excludes : Excludes (rows_of c) (distance_to c) c.start (take count ids) (last_distance c)

-- ---- with a run of records beside the two outputs: the outputs hold them, and the run holds them once more, by its ids and its distances

pub record RecordsHeld (c : SearchCall) (o : RecordsOut) : Type 0 where
  pub outputs : Held c o.plain.answer.count o.plain.ids o.plain.dists
  pub records_are : take o.plain.answer.count o.records ≡ found_records c
  pub run : Held c o.plain.answer.count (map (λ r. r.id) o.records) (map (λ r. r.distance) o.records)
