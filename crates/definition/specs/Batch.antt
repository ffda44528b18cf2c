-- Part 6. One batch: a fresh row for each listed node, all from the rows as they were before the batch; then the merge.
use Rattle.std.specs.Prelude.{ℕ, Bool, not, ◌||◌, cond, List, [], ◌∷◌, ◌++◌, map, leb, eqb, length, Float}
use Rattle.definition.specs.Lists.{keep, joined, is_in, rising, groups}
use Rattle.definition.specs.Tables.{row, ids, padded, table_of}
use Rattle.definition.specs.Greedy.{greedy, visited_ids}
use Rattle.definition.specs.Prune.{prune, measured}
use Rattle.definition.specs.Slack.{slack}

-- what a build goes by: the number of entries, the distance between two of them, and the parameters that the build reads
pub record Setting : Type 0 where
  pub n : ℕ
  pub pair : ℕ → ℕ → ℕ
  pub degree : ℕ
  pub beam : ℕ
  pub alpha : Float

-- prune the row of a node from a list of ids
unfoldable pub prune_ids : Setting → ℕ → List ℕ → List ℕ
prune_ids g node xs = prune g.pair g.degree g.alpha node (measured (g.pair node) xs)

-- row i of a wide table, and its ids
unfoldable pub wide_row : Setting → List ℕ → ℕ → List ℕ
wide_row g wide i = row (slack g.degree) wide i

unfoldable pub wide_ids : Setting → List ℕ → ℕ → List ℕ
wide_ids g wide i = ids (wide_row g wide i)

-- all visited by one greedy search from `from`, with the node's vector for the query
unfoldable pub collected : Setting → List ℕ → ℕ → ℕ → List ℕ
collected g wide node from = visited_ids (greedy (g.pair node) (wide_row g wide) g.n g.beam from)

-- the pool: the node's row and all visited from the start and from each of its seeds, once per id
unfoldable pub pool : Setting → List ℕ → ℕ → ℕ → List ℕ → List ℕ
pool g wide start node seeds = rising (wide_ids g wide node ++ joined (map (collected g wide node) (start ∷ seeds)))

-- a listed node with its fresh row
pub record Listed : Type 0 where
  pub node : ℕ
  pub fresh : List ℕ

unfoldable pub fresh_of : Setting → List ℕ → ℕ → ℕ → List ℕ → Listed
fresh_of g wide start node seeds = record { node = node; fresh = prune_ids g node (pool g wide start node seeds) }

-- each listed node, with its group of seeds
unfoldable pub fresh_rows : Setting → List ℕ → ℕ → List ℕ → List (List ℕ) → List Listed
fresh_rows g wide start [] gs = []
fresh_rows g wide start (u ∷ us) [] = []
fresh_rows g wide start (u ∷ us) (s ∷ gs) = fresh_of g wide start u s ∷ fresh_rows g wide start us gs

-- ---- merge

-- the listed nodes whose fresh row names i
unfoldable pub naming : List Listed → ℕ → List ℕ
naming ls i = map (λ l. l.node) (keep (λ l. is_in i l.fresh) ls)

unfoldable pub is_listed : List Listed → ℕ → Bool
is_listed ls i = is_in i (map (λ l. l.node) ls)

-- the affected: listed nodes, and ids in their fresh rows
unfoldable pub affected : List Listed → ℕ → Bool
affected ls i = is_listed ls i || not (eqb (length (naming ls i)) 0)

-- the base: the fresh row if it was listed, otherwise the wide table's
unfoldable pub base : Setting → List ℕ → List Listed → ℕ → List ℕ
base g wide [] i = wide_ids g wide i
base g wide (l ∷ ls) i = let r = base g wide ls i in cond (eqb i l.node) l.fresh r

-- base and the nodes that name it, without itself, sorted by id, once each
unfoldable pub merged_ids : Setting → List ℕ → List Listed → ℕ → List ℕ
merged_ids g wide ls i = rising (keep (λ w. not (eqb w i)) (base g wide ls i ++ naming ls i))

-- at most slack: that is the row; otherwise prune
unfoldable pub fitted : Setting → ℕ → List ℕ → List ℕ
fitted g i xs = let p = prune_ids g i xs in cond (leb (length xs) (slack g.degree)) xs p

-- the words of row i after the merge: unaffected rows keep theirs
unfoldable pub merged_row : Setting → List ℕ → List Listed → ℕ → List ℕ
merged_row g wide ls i =
    let r = padded (slack g.degree) (fitted g i (merged_ids g wide ls i)) in
    cond (affected ls i) r (wide_row g wide i)

unfoldable pub merged : Setting → List ℕ → List Listed → List ℕ
merged g wide ls = table_of g.n (merged_row g wide ls)

-- the wide table after a batch; `extra` seeds for each node
unfoldable pub batch : Setting → ℕ → ℕ → List ℕ → List ℕ → List ℕ → List ℕ
batch g start extra nodes seeds wide = merged g wide (fresh_rows g wide start nodes (groups (length nodes) extra seeds))
