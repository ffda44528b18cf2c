-- What the fresh rows are made from, and what is known of them once they are made. Where they lie is said in scratch.
use Rattle.std.specs.Prelude.{◌≡◌, true, ℕ, ◌+◌, ◌*◌, ◌≤◌, ◌<◌, length, get_or, take, drop}
use mathlib.Core.List.{List, Memᴰ as Mem}
use Rattle.definition.specs.Lists.{groups}
use Rattle.definition.specs.Tables.{padded}
use Rattle.definition.specs.Batch.{fresh_of, fresh_rows}
use Rattle.laws.specs.Listed.{fresh_width}
use Rattle.laws.specs.Apart.{Apart}
use Rattle.laws.specs.Parts.{Within}
use Rattle.laws.specs.Words.{Below}
use Rattle.theory.specs.build.Walks.{Walk, node_walks}
use Rattle.scratch.specs.Layout.{stamps_at, most_factors, fresh_row_at, fresh_end}
use Rattle.scratch.specs.Lent.{Lent}
use Rattle.given.specs.Given.{Given, setting}
use Rattle.given.specs.Listing.{Listing}
use Rattle.given.specs.Fresh.{merging, fresh_row, listed_in}
use Rattle.greedy.specs.declared.Plan.{Plan}
use Rattle.greedy.specs.Scratch.{Room}
use Rattle.batch_pool.specs.declared.Collected.{Collected}
use Rattle.batch_pool.specs.Regions.{stage, Grown, pooled_ids}
use Rattle.definition.specs.Metric.{vector, from_query}

-- what the walks go by, which keep what they visit
abbrev pub plan_of : Given → Plan
plan_of g = record { n = g.n; dim = g.dim; width = g.width; beam = g.params.beam; keep = true }

-- the words between two nodes, of which p are done: no stamp is above p
pub record Between (g : Given) (epoch p : ℕ) (words : List ℕ) : Type 0 where
  pub room : Room (plan_of g) epoch words
  pub word_room : fresh_end g.n ≤ length words
  pub stamps : (i : ℕ) → i < g.n → get_or words (stamps_at g.n + i) 0 ≤ p

-- one listed node: its place among the listed, the start, and its group of seeds
pub record Insertion : Type 0 where
  pub place : ℕ
  pub node : ℕ
  pub start : ℕ
  pub seeds : List ℕ

abbrev pub insertion : ℕ → ℕ → ℕ → List ℕ → Insertion
insertion place node start seeds = record { place = place; node = node; start = start; seeds = seeds }

pub record Insertable (g : Given) (i : Insertion) : Type 0 where
  pub place_in : i.place < 256
  pub node_in : i.node < g.n
  pub start_in : i.start < g.n
  pub seeds_in : Below g.n i.seeds

-- the listed node at place q, with its group
abbrev pub inserted : Given → Listing → ℕ → Insertion
inserted g l q = insertion q (get_or l.nodes q 0) l.start (take g.params.extra (drop (q * g.params.extra) l.seeds))

-- the walks for its pool
abbrev pub walks_for : List ℕ → Insertion → List Walk
walks_for wide i = node_walks wide i.start i.node i.seeds

-- its fresh row, by the definition
unfoldable pub fresh_for : Given → List ℕ → Insertion → List ℕ
fresh_for g wide i = (fresh_of (setting g) wide i.start i.node i.seeds).fresh

-- the distances from its own vector
abbrev pub from_node : Given → ℕ → ℕ → ℕ
from_node g node = from_query g.dim g.vectors (vector g.dim g.vectors node)

-- its pool was collected, with its place's stamp
pub record NodePool (g : Given) (wide : List ℕ) (i : Insertion) (before after : List ℕ) (c : Collected) : Type 0 where
  pub grown : Grown (plan_of g) c.epoch (stage before (i.place + 1) 0) (stage after (i.place + 1) c.len)
      (pooled_ids (plan_of g) (from_node g i.node) wide i.node i.start i.seeds) (from_node g i.node)

-- ids for the row of `own`
pub record Fit (n own : ℕ) (row : List ℕ) : Type 0 where
  pub once : Apart row
  pub below : (x : ℕ) → Mem x row → x < n
  pub not_own : ¬ Mem own row
  pub most : length row ≤ fresh_width

-- its fresh row was written; the rows before it are as they were
pub record RowMade (g : Given) (wide : List ℕ) (i : Insertion) (before after : Lent) : Type 0 where
  pub row : fresh_row g.n i.place after.words ≡ padded fresh_width (fresh_for g wide i)
  pub fit : Fit g.n i.node (fresh_for g wide i)
  pub earlier : (q : ℕ) → q < i.place → fresh_row g.n q after.words ≡ fresh_row g.n q before.words
  pub words_kept : Within 0 (fresh_row_at g.n i.place + fresh_width) before.words after.words
  pub floats_kept : Within 0 most_factors before.floats after.floats

-- the first k fresh rows
pub record RowsMade (g : Given) (wide : List ℕ) (l : Listing) (before after : Lent) (k : ℕ) : Type 0 where
  pub rows : (q : ℕ) → q < k → fresh_row g.n q after.words ≡ padded fresh_width (fresh_for g wide (inserted g l q))
  pub fits : (q : ℕ) → q < k → Fit g.n (get_or l.nodes q 0) (fresh_for g wide (inserted g l q))
  pub words_kept : Within 0 (fresh_row_at g.n k) before.words after.words
  pub floats_kept : Within 0 most_factors before.floats after.floats

-- all fresh rows: they are the definition's, each once each, of ids below n, without its own
pub record FreshRows (g : Given) (wide : List ℕ) (l : Listing) (before after : Lent) : Type 0 where
  pub are : listed_in (merging g.n l.nodes after.words)
      ≡ fresh_rows (setting g) wide l.start l.nodes (groups (length l.nodes) g.params.extra l.seeds)
  pub made : RowsMade g wide l before after (length l.nodes)
