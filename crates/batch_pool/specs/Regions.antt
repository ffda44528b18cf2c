-- The pool in the words of a batch, beside what a walk uses of them. Where the regions lie is said in crate scratch (Layout).
use Rattle.std.specs.Prelude.{◌≡◌, true, List, ◌∷◌, ◌++◌, map, ℕ, ◌+◌, ◌≤◌, ◌<◌, length, get_or, take}
use Rattle.definition.specs.Lists.{joined}
use Rattle.definition.specs.Greedy.{State, visited_ids, greedy}
use Rattle.definition.specs.Tables.{row, ids}
use Rattle.laws.specs.Parts.{part, Within}
use Rattle.laws.specs.Words.{Searchable}
use Rattle.scratch.specs.Layout.{visited_at, visited_end, visited_dists_at, pool_at, pool_end}
use Rattle.greedy.specs.declared.Plan.{Plan}
use Rattle.greedy.specs.Scratch.{Ground, Room}
use Rattle.batch_pool.specs.Pooled.{Pool, pool_as, Pooled, Added}

-- what the walks of a pool go over: they keep what they visit, and each word of the rows is padding or an entry
pub record Walkable (p : Plan) (vectors query wide : List ℕ) : Type 0 where
  pub ground : Ground p vectors query wide
  pub keeps : p.keep ≡ true
  pub rows : Searchable p.n wide

-- one moment of the collecting: the words, the node's stamp, and how many ids the pool has
pub record Stage : Type 0 where
  pub words : List ℕ
  pub stamp : ℕ
  pub len : ℕ

abbrev pub stage : List ℕ → ℕ → ℕ → Stage
stage words stamp len = record { words = words; stamp = stamp; len = len }

-- the pool's words: ids, marks and distances
abbrev pub pool_words_of : ℕ → List ℕ → List ℕ
pool_words_of n words = part (pool_at n) (pool_end n) words

abbrev pub pool_of : ℕ → Stage → Pool
pool_of n s = pool_as (pool_words_of n s.words) s.stamp s.len

-- the region of the visited ids
abbrev pub seen_of : ℕ → List ℕ → List ℕ
seen_of n words = part (visited_at n) (visited_end n) words

-- the first k that were visited are entries
abbrev pub SeenBelow : ℕ → List ℕ → ℕ → Type 0
SeenBelow n words k = (j : ℕ) → j < k → get_or words (visited_at n + j) 0 < n

-- and have the distances d
abbrev pub Seen : ℕ → List ℕ → ℕ → (ℕ → ℕ) → Type 0
Seen n words k d = (j : ℕ) → j < k → get_or words (visited_dists_at n + j) 0 ≡ d (get_or words (visited_at n + j) 0)

-- the first k that were visited went into the pool
pub record Filled (n : ℕ) (before after : Stage) (k : ℕ) : Type 0 where
  pub added : Added n (pool_of n before) (pool_of n after) (take k (seen_of n before.words)) (Seen n before.words k)
  pub kept : Within (pool_at n) (pool_end n) before.words after.words

-- the words as the next walk may find them
pub record Holding (p : Plan) (epoch : ℕ) (s : Stage) : Type 0 where
  pub room : Room p epoch s.words
  pub pool_room : pool_end p.n ≤ length s.words
  pub pooled : Pooled p.n (pool_of p.n s)

-- the state that a walk over the wide rows comes to, by the definition
abbrev pub wide_walk : Plan → (ℕ → ℕ) → List ℕ → ℕ → State
wide_walk p d wide from = greedy d (row p.width wide) p.n p.beam from

-- all visited by one walk
unfoldable pub visits : Plan → (ℕ → ℕ) → List ℕ → ℕ → List ℕ
visits p d wide from = visited_ids (wide_walk p d wide from)

-- the node's row, and all visited from the start and from each of the seeds
unfoldable pub pooled_ids : Plan → (ℕ → ℕ) → List ℕ → ℕ → ℕ → List ℕ → List ℕ
pooled_ids p d wide node start seeds = ids (row p.width wide node) ++ joined (map (visits p d wide) (start ∷ seeds))

-- the ids xs went into the pool, with the distances d; the last walk's epoch is `epoch`
pub record Grown (p : Plan) (epoch : ℕ) (before after : Stage) (xs : List ℕ) (d : ℕ → ℕ) : Type 0 where
  pub holding : Holding p epoch after
  pub added : Added p.n (pool_of p.n before) (pool_of p.n after) xs (λ f. f ≡ d)
  pub kept : Within 0 (pool_end p.n) before.words after.words
