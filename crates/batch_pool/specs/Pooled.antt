-- The pool of one node, a region of words: room for n ids, then the marks of the n entries, then room for n distances.
-- An entry is in the pool exactly when its mark is the node's stamp.
use Rattle.std.specs.Prelude.{◌≡◌, ℕ, ◌+◌, ◌*◌, ◌≤◌, ◌<◌, eqb, length, get_or, take, drop}
use mathlib.Core.List.{List, ◌++◌, map, Memᴰ as Mem}
use Rattle.definition.specs.Lists.{is_in}
use Rattle.laws.specs.Apart.{Apart}
use Rattle.laws.specs.Members.{Same}
use Rattle.marks.specs.Marked.{count}

-- its words, the stamp, and how many ids it has
pub record Pool : Type 0 where
  pub words : List ℕ
  pub stamp : ℕ
  pub len : ℕ

abbrev pub pool_as : List ℕ → ℕ → ℕ → Pool
pool_as words stamp len = record { words = words; stamp = stamp; len = len }

-- the ids, the marks of the n entries, and the distances of the ids
abbrev pub pool_ids : Pool → List ℕ
pool_ids p = take p.len p.words

abbrev pub pool_marks : ℕ → Pool → List ℕ
pool_marks n p = take n (drop n p.words)

abbrev pub pool_dists : ℕ → Pool → List ℕ
pool_dists n p = take p.len (drop (2 * n) p.words)

pub record Pooled (n : ℕ) (p : Pool) : Type 0 where
  pub size : length p.words ≡ 3 * n
  pub counted : count p.stamp (pool_marks n p) ≡ p.len
  pub marks_le : (i : ℕ) → i < n → get_or p.words (n + i) 0 ≤ p.stamp
  pub marks : (i : ℕ) → i < n → eqb (get_or p.words (n + i) 0) p.stamp ≡ is_in i (pool_ids p)
  pub once : Apart (pool_ids p)
  pub below : (i : ℕ) → Mem i (pool_ids p) → i < n

-- each id's distance is d's
abbrev pub Measured : ℕ → (ℕ → ℕ) → Pool → Type 0
Measured n d p = pool_dists n p ≡ map d (pool_ids p)

-- the ids xs went into the pool; `Known d` says that their distances are d's
pub record Added (n : ℕ) (before after : Pool) (xs : List ℕ) (Known : (ℕ → ℕ) → Type 0) : Type 0 where
  pub pooled : Pooled n after
  pub same : Same (pool_ids after) (pool_ids before ++ xs)
  pub measured : (d : ℕ → ℕ) → Known d → Measured n d before → Measured n d after
