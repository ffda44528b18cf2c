-- What the merge's functions ask and leave.
use Rattle.std.specs.Prelude.{ℕ, ◌+◌, ◌≤◌, ◌<◌, ◌≡◌, List, length, get_or}
use Rattle.definition.specs.Batch.{Setting, merged_ids}
use Rattle.definition.specs.Slack.{slack}
use Rattle.laws.specs.Words.{Below}
use Rattle.scratch.specs.Layout.{seats_at}
use Rattle.given.specs.Fresh.{Merging, listed_in}
use Rattle.batch_ids.specs.Says.{Holds}
use Rattle.batch_chains.specs.Last.{seat}
use Rattle.batch_chains.specs.Says.{Chains}

-- how many merged ids a node can have: the words of its base, and the listed nodes
abbrev pub merged_most : ℕ
merged_most = 340

-- the words when all chains are made and all listed nodes have their seats
pub record Ready (f : Merging) : Type 0 where
  pub few : length f.nodes ≤ 256
  pub real : Below f.n f.nodes
  pub chains : Chains f
  pub seats : (i : ℕ) → i < f.n → get_or f.words (seats_at f.n + i) 0 ≡ seat f.nodes i 0

-- the merged ids of one node, whatever else the setting says
pub record Gathered (f : Merging) (wide : List ℕ) (width node : ℕ) (l : List ℕ) : Type 0 where
  pub is : (g : Setting) → width ≡ slack g.degree → Holds l (merged_ids g wide (listed_in f) node)
  pub most : length l ≤ merged_most
