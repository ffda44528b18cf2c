-- What the functions of the merge ask and leave. Where everything lies in the lent slices is said in scratch.
use Rattle.std.specs.Prelude.{ℕ, ◌+◌, ◌*◌, ◌≤◌, ◌<◌, ◌≡◌, List, length}
use Rattle.definition.specs.Tables.{row}
use Rattle.definition.specs.Batch.{merged_ids, fitted, merged}
use Rattle.laws.specs.Parts.{Within}
use Rattle.laws.specs.Words.{Below, Searchable}
use Rattle.scratch.specs.Layout.{heads_at, links_end, fresh_end, most_factors}
use Rattle.given.specs.Given.{Given, setting, Limits, Wide}
use Rattle.given.specs.Held.{Held}
use Rattle.given.specs.Fresh.{Merging, merging, entries_of, listed_in}
use Rattle.batch_chains.specs.Says.{Once}
use Rattle.batch_affected.specs.Below.{NamesBelow}
use Rattle.table.specs.Rows.{Stretched}
use Rattle.batch_affected.specs.Says.{Ready}

-- the listed nodes, room for their chains, and the fresh rows as pruning left them: no id twice in a row, each id below n
pub record Unlinked (f : Merging) : Type 0 where
  pub nodes : f.n ≤ 65536
  pub few : length f.nodes ≤ 256
  pub real : Below f.n f.nodes
  pub room : fresh_end f.n ≤ length f.words
  pub once : Once f.n (entries_of f.nodes) f.words
  pub below : NamesBelow f

-- the words from which rows are gathered: chains, seats, and the fresh rows' ids
pub record Gatherable (f : Merging) : Type 0 where
  pub ready : Ready f
  pub below : NamesBelow f

pub record AllLinked (n : ℕ) (nodes w₀ w : List ℕ) : Type 0 where
  pub gatherable : Gatherable (merging n nodes w)
  pub within : Within (heads_at n) (links_end n) w₀ w

-- the ids of row i after the merge
unfoldable pub merged_to : Given → Merging → List ℕ → ℕ → List ℕ
merged_to g f wide i = fitted (setting g) i (merged_ids (setting g) wide (listed_in f) i)

-- a node whose row may be merged
pub record RowReady (g : Given) (f : Merging) (i : ℕ) (wide : List ℕ) : Type 0 where
  pub limits : Limits g
  pub gatherable : Gatherable f
  pub within : i < g.n
  pub has : i * g.width + g.width ≤ length wide
  pub words : Searchable g.n (row g.width wide i)

-- only row i differs
pub record RowMerged (g : Given) (f : Merging) (i : ℕ) (wide₀ wide : List ℕ) : Type 0 where
  pub row : Stretched wide₀ wide i g.width (length (merged_to g f wide₀ i)) (merged_to g f wide₀ i)

-- all that a merge asks
pub record MergeReady (g : Given) (nodes : List ℕ) (h : Held) : Type 0 where
  pub limits : Limits g
  pub unlinked : Unlinked (merging g.n nodes h.lent.words)
  pub table : Wide g h.wide
  pub room : most_factors ≤ length h.lent.floats

-- the wide table is the definition's; marks, fresh rows and all else outside the merge's own room stay
pub record Merged (g : Given) (nodes : List ℕ) (before after : Held) : Type 0 where
  pub wide_is : after.wide ≡ merged (setting g) before.wide (listed_in (merging g.n nodes before.lent.words))
  pub words_within : Within (heads_at g.n) (links_end g.n) before.lent.words after.lent.words
  pub floats_within : Within 0 most_factors before.lent.floats after.lent.floats
