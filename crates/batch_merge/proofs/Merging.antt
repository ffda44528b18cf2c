-- The merge whole: chains first, then the rows in turn. The chains leave the fresh rows as they were, and the rows take only the factors' part of the floats.
use Prim.Native.Nat.{ℕ, ◌≤◌}
use native.Mathlib.Omega.{arith}
use mathlib.Core.Path.{◌≡◌, ap, ◌∙◌}
use mathlib.Core.List.{List}
use lib.ListN.{length, drop}
use lib.Ieee.{Float}
use Rattle.definition.specs.Batch.{merged}
use Rattle.laws.specs.Listed.{listed_at}
use Rattle.laws.specs.Parts.{part, put, part_length, put_within, within_wider}
use Rattle.scratch.specs.Layout.{heads_at, links_end, fresh_at, most_factors}
use Rattle.given.specs.Given.{Given, setting, Limits, Wide}
use Rattle.given.specs.Held.{Held, held}
use Rattle.given.specs.Fresh.{merging, listed_in}
use Rattle.batch_merge.specs.Says.{Gatherable, AllLinked, MergeReady, Merged}

module _ {g : Given} {nodes : List ℕ} {h : Held} {words : List ℕ} (r : MergeReady g nodes h) (l : AllLinked g.n nodes h.lent.words words) where
  pub rows_asks : (most_factors ≤ length (part 0 most_factors h.lent.floats))
      × (Limits g × (Gatherable (merging g.n nodes words) × Wide g h.wide))
  rows_asks = let s = part_length 0 most_factors h.lent.floats r.room in (omega arith, (r.limits, (l.gatherable, r.table)))

  pub all_done : (factors : List Float) {wide : List ℕ} → wide ≡ merged (setting g) h.wide (listed_in (merging g.n nodes words))
      → length factors ≡ length (part 0 most_factors h.lent.floats) → Merged g nodes h (held wide words (put 0 most_factors h.lent.floats factors))
  all_done factors is same =
      let fresh : drop (fresh_at g.n) words ≡ drop (fresh_at g.n) h.lent.words =
      (within_wider (heads_at g.n) (links_end g.n) h.lent.words words l.within 0 (fresh_at g.n) (omega arith) (omega arith)).above in
      record {
        wide_is = is ∙ ap (λ (t : List ℕ). merged (setting g) h.wide (listed_at nodes t)) fresh;
        words_within = l.within;
        floats_within = put_within 0 most_factors h.lent.floats factors (omega arith) r.room same;
      }
