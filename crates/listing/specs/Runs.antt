-- One run of equal distances among keys that rise.
use Rattle.std.specs.Prelude.{◌≡◌, ℕ, ◌+◌, ◌-◌, ◌<◌, ◌≤◌, List, length, slice_index, slice_index_or}
use Rattle.definition.specs.Beam.{Item, nobody}
use Rattle.beam.specs.Keys.{dist_of, item_of}
use Rattle.listing.specs.Listed.{Pairs, ListedTo}

-- of the first `len` keys those from `first` to `end` hold one distance, and the next another
pub record RunEnd (keys : List ℕ) (len first end : ℕ) : Type 0 where
  pub some : first < end
  pub within : end ≤ len
  pub level : (i : ℕ) → first ≤ i → i < end → dist_of (slice_index keys i) ≡ dist_of (slice_index keys first)
  pub ends : end < len → ¬ (dist_of (slice_index keys end) ≡ dist_of (slice_index keys first))

-- answers whose places from `first` to `last` are the keys from `end` back, listed up to there, are listed on to `last`
pub record RunListed (keys : List ℕ) (first end last : ℕ) (before after : Pairs) : Type 0 where
  pub goes_on : (answers : List Item) (lent : Pairs)
      → ((i : ℕ) → first ≤ i → i < last → slice_index_or answers i nobody ≡ item_of (slice_index keys (first + end - 1 - i)))
      → last ≤ length answers
      → last ≤ length lent.ids
      → last ≤ length lent.dists
      → ListedTo first answers lent before
      → ListedTo last answers lent after
