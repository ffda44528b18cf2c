-- The listed nodes with their fresh rows, as the words of the rows say them.
use Rattle.std.specs.Prelude.{ℕ, List, [], ◌∷◌, take, drop}
use Rattle.definition.specs.Tables.{ids}
use Rattle.definition.specs.Batch.{Listed}

abbrev pub listed : ℕ → List ℕ → Listed
listed u fresh = record { node = u; fresh = fresh }

-- how many words a fresh row has, and so how far apart the fresh rows lie: the greatest degree
abbrev pub fresh_width : ℕ
fresh_width = 64

unfoldable pub listed_at : List ℕ → List ℕ → List Listed
listed_at [] t = []
listed_at (u ∷ us) t = listed u (ids (take fresh_width t)) ∷ listed_at us (drop fresh_width t)
