-- What open and close ask and leave, on accepted input.
use Rattle.std.specs.Prelude.{ℕ, ◌+◌, ◌*◌, ◌≤◌, ◌<◌, ◌≡◌, true, List, length}
use Rattle.definition.specs.Tables.{row, build_row}
use Rattle.definition.specs.Slack.{slack}
use Rattle.definition.specs.Batch.{wide_ids}
use Rattle.definition.specs.Build.{closed_ids}
use Rattle.laws.specs.Words.{Searchable}
use Rattle.scratch.specs.Layout.{most_factors}
use Rattle.given.specs.Given.{Given, setting, Limits}
use Rattle.table.specs.Rows.{Stretched}
use Rattle.theory.specs.Rule.{Ruled}

-- what is opened: the opening rows of n entries; `width` is the slack
pub record Opened : Type 0 where
  pub n : ℕ
  pub degree : ℕ
  pub width : ℕ
  pub rows : List ℕ

abbrev pub opened : ℕ → ℕ → ℕ → List ℕ → Opened
opened n degree width rows = record { n = n; degree = degree; width = width; rows = rows }

-- `size` is the length of the wide table
pub record OpenReady (o : Opened) (size : ℕ) : Type 0 where
  pub nodes : o.n ≤ 65536
  pub degree_few : o.degree ≤ 64
  pub width_is : o.width ≡ slack o.degree
  pub rows : Ruled o.n o.degree o.rows
  pub table : size ≡ o.n * o.width

-- row i of the wide table, to be closed into a table of `size` words; `room` is how many factors there are
pub record RowCloses (g : Given) (i : ℕ) (wide : List ℕ) (size room : ℕ) : Type 0 where
  pub limits : Limits g
  pub within : i < g.n
  pub has : i * g.width + g.width ≤ length wide
  pub to : i * g.params.degree + g.params.degree ≤ size
  pub rule : build_row g.n i (row g.width wide i) ≡ true
  pub words : Searchable g.n (row g.width wide i)
  pub factors : most_factors ≤ room

-- the ids of row i in the closed table
unfoldable pub closed_to : Given → List ℕ → ℕ → List ℕ
closed_to g wide i = closed_ids (setting g) i (wide_ids (setting g) wide i)

-- only row i of the closed table differs
pub record RowClosed (g : Given) (i : ℕ) (wide closed₀ closed : List ℕ) : Type 0 where
  pub row : Stretched closed₀ closed i g.params.degree (length (closed_to g wide i)) (closed_to g wide i)

-- `size` is the length of the closed table, and `room` that of the factors
pub record CloseReady (g : Given) (wide : List ℕ) (size room : ℕ) : Type 0 where
  pub limits : Limits g
  pub rows : Ruled g.n g.width wide
  pub table : size ≡ g.n * g.params.degree
  pub factors : most_factors ≤ room
