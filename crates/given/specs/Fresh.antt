-- The fresh rows as they lie in the lent words: by row, entry by entry, and as the definition's listed nodes with their rows.
use Rattle.std.specs.Prelude.{ℕ, ◌+◌, ◌*◌, List, length, get_or, drop}
use Rattle.definition.specs.Batch.{Listed}
use Rattle.laws.specs.Listed.{fresh_width, listed_at}
use Rattle.laws.specs.Parts.{part}
use Rattle.scratch.specs.Layout.{fresh_at, fresh_row_at}

-- the words of fresh row p
abbrev pub fresh_row : ℕ → ℕ → List ℕ → List ℕ
fresh_row n p words = part (fresh_row_at n p) (fresh_row_at n p + fresh_width) words

-- entry e of the fresh rows, counted from the first word of the first row
abbrev pub entry : ℕ → List ℕ → ℕ → ℕ
entry n words e = get_or words (fresh_at n + e) 0

-- what is merged: the listed nodes, and the words that hold their fresh rows, for n entries
pub record Merging : Type 0 where
  pub n : ℕ
  pub nodes : List ℕ
  pub words : List ℕ

abbrev pub merging : ℕ → List ℕ → List ℕ → Merging
merging n nodes words = record { n = n; nodes = nodes; words = words }

-- how many entries their rows have
abbrev pub entries_of : List ℕ → ℕ
entries_of nodes = length nodes * fresh_width

abbrev pub listed_in : Merging → List Listed
listed_in f = listed_at f.nodes (drop (fresh_at f.n) f.words)
