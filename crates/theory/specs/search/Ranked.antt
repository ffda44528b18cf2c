-- What is ranked is one of the items; what the work of a greedy search holds, and so each of its answers, is an entry with its own distance.
use Rattle.std.specs.Prelude.{ℕ, ◌<◌, ◌≡◌}
use mathlib.Core.List.{List, Memᴰ as Mem}
use Rattle.definition.specs.Lists.{sort}
use Rattle.definition.specs.Beam.{Item}
use Rattle.definition.specs.Greedy.{greedy}
use Rattle.definition.specs.Search.{listed_first, ranked}
use Rattle.laws.specs.Members.{take_mem}
use Rattle.laws.specs.Sorting.{sort_mem}
use Rattle.theory.specs.search.Ground.{Ground}
use Rattle.theory.specs.search.Ends.{greedy_keeps}

pub ranked-mem : (k : ℕ) (items : List Item) {x : Item} → Mem x (ranked k items) → Mem x items
unfolding ranked
ranked-mem k items m = sort_mem listed_first items (take_mem k (sort listed_first items) m)

module _ (g : Ground) where
  open g use {d, rows, n, beam, start}

  pub work_own : (x : Item) → Mem x (greedy d rows n beam start).work → (x.dist ≡ d x.id) × (x.id < n)
  work_own x m = let kept = greedy_keeps g in let v = kept.holding.seen x m in (kept.seen.own x v, kept.seen.below x v)

  pub ranked_own : (k : ℕ) (x : Item) → Mem x (ranked k (greedy d rows n beam start).work) → (x.dist ≡ d x.id) × (x.id < n)
  ranked_own k x m = work_own x (ranked-mem k (greedy d rows n beam start).work m)
