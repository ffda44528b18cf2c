-- The listed nodes of a batch, the start of their walks, and their seeds, a group for each node.
use Rattle.std.specs.Prelude.{ℕ, ◌*◌, ◌≤◌, ◌<◌, ◌≡◌, List, length}
use Rattle.definition.specs.Lists.{groups}
use Rattle.laws.specs.Words.{Below}
use Rattle.theory.specs.build.Walks.{Walk, batch_walks}
use Rattle.given.specs.Given.{Given}

pub record Listing : Type 0 where
  pub start : ℕ
  pub nodes : List ℕ
  pub seeds : List ℕ

abbrev pub listing : ℕ → List ℕ → List ℕ → Listing
listing start nodes seeds = record { start = start; nodes = nodes; seeds = seeds }

-- the walks of a batch of them, over this wide table
abbrev pub walks_of : Given → List ℕ → Listing → List Walk
walks_of g wide l = batch_walks wide l.start l.nodes (groups (length l.nodes) g.params.extra l.seeds)

-- as an accepted batch has them
pub record Listable (g : Given) (l : Listing) : Type 0 where
  pub start_in : l.start < g.n
  pub few : length l.nodes ≤ 256
  pub nodes_in : Below g.n l.nodes
  pub groups : length l.seeds ≡ length l.nodes * g.params.extra
  pub seeds_in : Below g.n l.seeds
