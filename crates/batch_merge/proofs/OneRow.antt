-- One affected node: its gathered ids may be fitted, and what is written is the definition's row.
use Prim.Native.Nat.{ℕ, ◌+◌, ◌*◌, ◌≤◌, ◌<◌}
use native.Mathlib.Omega.{arith}
use mathlib.Core.Path.{◌≡◌, sym, ap, ◌∙◌, subst}
use mathlib.Core.List.{List, Memᴰ as Mem}
use lib.ListN.{length}
use Rattle.definition.specs.Batch.{merged_ids, fitted}
use Rattle.definition.specs.Outcome.{setting_of}
use Rattle.scratch.specs.Layout.{widest}
use Rattle.given.specs.Given.{Given, setting, degree-slack}
use Rattle.given.specs.Fresh.{Merging, merging, listed_in}
use Rattle.prune_pool.specs.Says.{Distinct}
use Rattle.prune_pool.specs.Free.{asc_distinct}
use Rattle.batch_affected.specs.Below.{merged_below}
use Rattle.batch_affected.specs.Says.{Ready, Gathered}
use Rattle.prune_fit.specs.Fits.{Fittable, Fitted, fitted-slack}
use Rattle.prune_fit.specs.Fronts.{members_below}
use Rattle.table.specs.Rows.{stretched_as}
use Rattle.batch_merge.specs.Says.{RowReady, RowMerged, merged_to}

module _ {g : Given} {nodes words wide : List ℕ} {i : ℕ} (r : RowReady g (merging g.n nodes words) i wide) {node : ℕ} (is : node ≡ i) where
  abbrev f : Merging
  f = merging g.n nodes words

  pub here_too : node * g.width + g.width ≤ length wide
  here_too = subst (λ (k : ℕ). k * g.width + g.width ≤ length wide) (sym is) r.has

  widths : (g.params.degree ≤ g.width) × (g.width ≤ widest)
  widths = degree-slack g.params.degree g.width r.limits.width_is r.limits.degree_few

  pub gather_asks : ((node < g.n) × (g.width ≤ widest) × (node * g.width + g.width ≤ length wide)) × Ready f
  gather_asks = let h = r.within in ((omega arith, widths.1, here_too), r.gatherable.ready)

  -- the list that was gathered, and as it is lent
  module _ {list got : List ℕ} (gathered : Gathered f wide g.width node list) (got_is : got ≡ list) where
    ids_are : got ≡ merged_ids (setting g) wide (listed_in f) i
    unfolding setting_of
    ids_are = got_is ∙ (gathered.is (setting g) r.limits.width_is).is ∙ ap (merged_ids (setting g) wide (listed_in f)) is

    below : (z : ℕ) → Mem z got → z < g.n
    unfolding setting_of
    below z m =
        merged_below (setting g) f wide g.width i r.limits.width_is r.words r.gatherable.ready.real r.gatherable.below z
        (subst (Mem z) ids_are m)

    apart : Distinct got
    unfolding setting_of
    apart = subst Distinct (sym got_is) (asc_distinct (gathered.is (setting g) r.limits.width_is).rises)

    pub fit_asks : Fittable g node g.width got
    fit_asks = let h = r.within in record { limits = r.limits; node_in = omega arith; ids_in = members_below g.n got below; apart = apart; narrow = widths.0 }

    pub row_merged : {wide' : List ℕ} → Fitted g node g.width got wide wide' → RowMerged g f i wide wide'
    unfolding setting_of merged_to
    row_merged {wide'} t =
        record {
          row =
              stretched_as wide wide' node i g.width _ _ _ is
              (fitted-slack (setting g) g.width node got r.limits.width_is
              ∙ ap (λ (k : ℕ). fitted (setting g) k got) is
              ∙ ap (fitted (setting g) i) ids_are)
              t.row;
        }
