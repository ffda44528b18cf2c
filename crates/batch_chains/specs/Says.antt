-- Chains through the lent words, where scratch lays them: the heads of the n ids, and the links, one for each entry of the fresh rows.
use Rattle.std.specs.Prelude.{ℕ, ◌+◌, ◌/◌, ◌≤◌, ◌<◌, ◌≡◌, Option, None, Some, suc, List, map, length, get_or, set}
use Rattle.laws.specs.Listed.{fresh_width}
use Rattle.scratch.specs.Layout.{heads_at, seats_at, links_at, links_end, fresh_at}
use Rattle.given.specs.Fresh.{Merging, entry, entries_of}
use Rattle.batch_ids.specs.Grown.{grown, wanted}
use Rattle.batch_ids.specs.Says.{Holds}
use Rattle.batch_chains.specs.Last.{last, named, seat}

-- the word that holds a place: one more than it, 0 for none
abbrev pub place_word : Option ℕ → ℕ
place_word None = 0
place_word (Some p) = suc p

-- m entries of the fresh rows lie in `size` words, and each has a link
pub record Laid (n m size : ℕ) : Type 0 where
  pub nodes : n ≤ 65536
  pub entries : links_at n + m ≤ links_end n
  pub high : fresh_at n + m ≤ size

pub record OneLinked (n e : ℕ) (w₀ w : List ℕ) : Type 0 where
  pub past : n ≤ entry n w₀ e → w ≡ w₀
  pub linked : entry n w₀ e < n → w ≡ set (set w₀ (links_at n + e) (get_or w₀ (heads_at n + entry n w₀ e) 0)) (heads_at n + entry n w₀ e) (e + 1)

-- the chains of the first m entries
pub record Chained (n m : ℕ) (w : List ℕ) : Type 0 where
  pub heads : (i : ℕ) → i < n → get_or w (heads_at n + i) 0 ≡ last (entry n w) i m
  pub nexts : (e : ℕ) → e < m → entry n w e < n → get_or w (links_at n + e) 0 ≡ last (entry n w) (entry n w e) e

-- only heads and links differ
pub record Kept (n m : ℕ) (w₀ w : List ℕ) : Type 0 where
  pub below : (k : ℕ) → k < heads_at n → get_or w k 0 ≡ get_or w₀ k 0
  pub between : (k : ℕ) → seats_at n ≤ k → k < links_at n → get_or w k 0 ≡ get_or w₀ k 0
  pub above : (k : ℕ) → links_at n + m ≤ k → get_or w k 0 ≡ get_or w₀ k 0

pub record Linked (n m : ℕ) (w₀ w : List ℕ) : Type 0 where
  pub chained : Chained n m w
  pub kept : Kept n m w₀ w

-- no id stands twice in a fresh row
pub record Once (n m : ℕ) (w : List ℕ) : Type 0 where
  pub apart : (a b : ℕ) → a < b → b < m → a / fresh_width ≡ b / fresh_width → entry n w a ≡ entry n w b → n ≤ entry n w b

-- the chains of all entries of the listed nodes' rows
pub record Chains (f : Merging) : Type 0 where
  pub laid : Laid f.n (entries_of f.nodes) (length f.words)
  pub chained : Chained f.n (entries_of f.nodes) f.words
  pub once : Once f.n (entries_of f.nodes) f.words

-- the listed nodes that name i in the first m entries, by the last row first
unfoldable pub sources : Merging → ℕ → ℕ → List ℕ
sources f i m = map (λ e. get_or f.nodes (e / fresh_width) 0) (named (entry f.n f.words) i m)

-- all of them are put into a list
pub record NamingAdded (f : Merging) (node : ℕ) (l₀ l : List ℕ) : Type 0 where
  pub holds : Holds l (grown (wanted node (sources f node (entries_of f.nodes))) l₀)
  pub most : length l ≤ length l₀ + length f.nodes

-- the place of each listed node, one more than it; 0 for all others
pub record Seated (nodes slots : List ℕ) : Type 0 where
  pub seats : (i : ℕ) → i < length slots → get_or slots i 0 ≡ seat nodes i 0
