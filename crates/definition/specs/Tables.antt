-- Tables: flat words, rows of one width, 0xFFFFFFFF for padding; the build rule and the search rule; a table as cleaned.
use Rattle.std.specs.Prelude.{ℕ, ◌-◌, ◌*◌, Bool, not, ◌&&◌, ◌||◌, cond, List, ◌++◌, map, ltb, eqb, length, take, drop, replicate}
use Rattle.definition.specs.Lists.{each, keep, joined, upto, is_in, distinct}

unfoldable pub pad : ℕ
pad = 0xFFFFFFFF

-- row i of a table
unfoldable pub row : ℕ → List ℕ → ℕ → List ℕ
row width table i = take width (drop (i * width) table)

-- the ids of a row: its words that are no padding
unfoldable pub ids : List ℕ → List ℕ
ids words = keep (λ w. not (eqb w pad)) words

-- ids, then padding
unfoldable pub padded : ℕ → List ℕ → List ℕ
padded width xs = xs ++ replicate (width - length xs) pad

-- the table of n rows whose row i is `rows i`
unfoldable pub table_of : ℕ → (ℕ → List ℕ) → List ℕ
table_of n rows = joined (map rows (upto n))

unfoldable pub only_pad : List ℕ → Bool
only_pad words = each (λ w. eqb w pad) words

-- beyond as many words as there are ids stands only padding: so the ids come first
unfoldable pub ids_first : List ℕ → Bool
ids_first words = only_pad (drop (length (ids words)) words)

-- build rule for the row of `own`: distinct ids below n, not its own, then only padding
unfoldable pub build_row : ℕ → ℕ → List ℕ → Bool
build_row n own words =
    ids_first words && distinct (ids words) && each (λ w. ltb w n) (ids words) && not (is_in own (ids words))

unfoldable pub build_rule : ℕ → ℕ → List ℕ → Bool
build_rule n width table = each (λ i. build_row n i (row width table i)) (upto n)

-- search rule: every word is padding or an id below n
unfoldable pub search_rule : ℕ → List ℕ → Bool
search_rule n table = each (λ w. eqb w pad || ltb w n) table

-- a table as `lookup` reads it: each word that is no id below n is padding
unfoldable pub cleaned : ℕ → List ℕ → List ℕ
cleaned n table = map (λ w. cond (ltb w n) w pad) table
