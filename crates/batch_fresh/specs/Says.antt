-- A row pruned from a pool within the two lent slices.
use Rattle.std.specs.Prelude.{◌≡◌, List, ℕ, ◌+◌, ◌≤◌, ◌<◌, length}
use Rattle.definition.specs.Metric.{between}
use Rattle.definition.specs.Prune.{prune}
use Rattle.definition.specs.Tables.{padded}
use Rattle.laws.specs.Listed.{fresh_width}
use Rattle.laws.specs.Paired.{items_of}
use Rattle.laws.specs.Parts.{part, Within}
use Rattle.scratch.specs.Layout.{pool_at, pool_dists_at, most_factors, fresh_row_at, fresh_end}
use Rattle.scratch.specs.Lent.{Lent}
use Rattle.given.specs.Given.{Given}
use Rattle.given.specs.Fresh.{fresh_row}
use Rattle.prune_pool.specs.Says.{Distinct}
use Rattle.prune.specs.Says.{Measurable}

-- the ids of a pool of len, and their distances
abbrev pub lent_ids : ℕ → ℕ → List ℕ → List ℕ
lent_ids n len words = part (pool_at n) (pool_at n + len) words

abbrev pub lent_dists : ℕ → ℕ → List ℕ → List ℕ
lent_dists n len words = part (pool_dists_at n) (pool_dists_at n + len) words

-- a pool of len ids that may be pruned, for the fresh row at `place`
pub record Prunable (g : Given) (place len : ℕ) (at : Lent) : Type 0 where
  pub nodes : g.n ≤ 65536
  pub place_in : place < 256
  pub len_in : len ≤ g.n
  pub degree_few : g.params.degree ≤ fresh_width
  pub word_room : fresh_end g.n ≤ length at.words
  pub float_room : most_factors ≤ length at.floats
  pub measurable : Measurable g.dim g.vectors (lent_ids g.n len at.words) (lent_dists g.n len at.words)
  pub apart : Distinct (lent_ids g.n len at.words)

-- the ids that pruning takes from it
unfoldable pub pruned_for : Given → ℕ → ℕ → List ℕ → List ℕ
pruned_for g node len words =
    prune (between g.dim g.vectors) g.params.degree g.params.alpha node (items_of (lent_ids g.n len words) (lent_dists g.n len words))

-- they are the fresh row at `place`; besides it, only the factors differ
pub record Fresh (n place : ℕ) (ids : List ℕ) (before after : Lent) : Type 0 where
  pub row : fresh_row n place after.words ≡ padded fresh_width ids
  pub words_kept : Within (fresh_row_at n place) (fresh_row_at n place + fresh_width) before.words after.words
  pub floats_kept : Within 0 most_factors before.floats after.floats
