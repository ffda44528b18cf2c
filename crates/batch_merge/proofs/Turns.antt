-- The rows in turn: those written so far are the definition's, the others are as they were before the batch.
use Prim.Native.Nat.{ℕ, ◌+◌, ◌*◌, ◌≤◌, ◌<◌}
use native.Mathlib.Omega.{arith}
use mathlib.Core.Path.{◌≡◌, sym, ap, ◌∙◌, subst}
use mathlib.Core.Bool.{Bool, true, false, cond}
use mathlib.Core.List.{List}
use lib.ListN.{length}
use Rattle.definition.specs.Tables.{row, padded}
use Rattle.definition.specs.Slack.{slack}
use Rattle.definition.specs.Batch.{wide_row, affected, merged_ids, fitted, merged_row, merged}
use Rattle.definition.specs.Outcome.{setting_of}
use Rattle.laws.specs.Tables.{row_fits}
use Rattle.laws.specs.Words.{Searchable, searchable_row}
use Rattle.given.specs.Given.{Given, setting, degree-slack, Limits}
use Rattle.given.specs.Fresh.{Merging, listed_in}
use Rattle.batch_affected.specs.Affected.{merged_alone}
use Rattle.prune_fit.specs.Fits.{fitted-slack, fitted-few}
use Rattle.table.specs.RowByRow.{RowsWritten, written_none, written_more, written_same, written_all}
use Rattle.batch_merge.specs.Says.{Gatherable, RowReady, RowMerged, merged_to}

-- rows below i are merged
pub record Turned (g : Given) (f : Merging) (wide₀ wide : List ℕ) (i : ℕ) : Type 0 where
  pub written : RowsWritten g.n g.width (merged_row (setting g) wide₀ (listed_in f)) wide₀ wide i

module _ {g : Given} {f : Merging} {wide₀ : List ℕ} where
  pub turn_start : length wide₀ ≡ g.n * g.width → Turned g f wide₀ wide₀ 0
  turn_start size = record { written = written_none g.n g.width (merged_row (setting g) wide₀ (listed_in f)) wide₀ size }

  module _ {wide : List ℕ} {i : ℕ} (limits : Limits g) (w : Turned g f wide₀ wide i) (h : i < g.n) where
    turn_fits : i * g.width + g.width ≤ length wide
    turn_fits = subst (λ (k : ℕ). i * g.width + g.width ≤ k) (sym w.written.size) (row_fits i g.n g.width h)

    later : row g.width wide i ≡ row g.width wide₀ i
    later = let q : i ≤ i = omega arith in w.written.later i q

    pub turn_asks : Gatherable f → Searchable g.n wide₀ → RowReady g f i wide
    turn_asks gatherable r =
        record {
          limits = limits;
          gatherable = gatherable;
          within = h;
          has = turn_fits;
          words = subst (Searchable g.n) (sym later) (searchable_row g.n g.width i wide₀ r);
        }

    untouched : wide_row (setting g) wide i ≡ wide_row (setting g) wide₀ i
    unfolding wide_row setting_of
    untouched = ap (λ (k : ℕ). row k wide i) (sym limits.width_is) ∙ later ∙ ap (λ (k : ℕ). row k wide₀ i) limits.width_is

    -- row i of the merged table, where its ids are xs and `b` says whether it is affected
    abbrev row_by : Bool → List ℕ
    row_by b = cond b (padded (slack g.params.degree) (fitted (setting g) i (merged_ids (setting g) wide₀ (listed_in f) i))) (wide_row (setting g) wide₀ i)

    few : (xs : List ℕ) → length (fitted (setting g) i xs) ≤ g.width
    unfolding setting_of
    few xs =
        let fits = (degree-slack g.params.degree g.width limits.width_is limits.degree_few).0 in
        subst (λ (l : List ℕ). length l ≤ g.width) (fitted-slack (setting g) g.width i xs limits.width_is) (fitted-few (setting g) g.width i xs fits)

    merged_one : (wide' : List ℕ) → true ≡ affected (listed_in f) i → length wide' ≡ length wide → RowMerged g f i wide wide' → Turned g f wide₀ wide' (i + 1)
    unfolding merged_row setting_of merged_to
    merged_one wide' a same m =
        let row_is : padded g.width (merged_to g f wide i) ≡ merged_row (setting g) wide₀ (listed_in f) i =
        ap (λ (k : ℕ). padded k (merged_to g f wide i)) limits.width_is
        ∙ ap (λ (l : List ℕ). padded (slack g.params.degree) (fitted (setting g) i l)) (merged_alone (setting g) wide wide₀ (listed_in f) i untouched)
        ∙ ap row_by a in
        record {
          written =
              written_more g.n g.width (merged_row (setting g) wide₀ (listed_in f)) wide₀ wide i w.written h wide' _ (merged_to g f wide i) m.row same
              (few (merged_ids (setting g) wide (listed_in f) i)) row_is;
        }

    pub turn_merged : {wide' after : List ℕ} → after ≡ wide' → true ≡ affected (listed_in f) i → length wide' ≡ length wide → RowMerged g f i wide wide'
        → Turned g f wide₀ after (i + 1)
    turn_merged {wide'} e a same m = subst (λ (t : List ℕ). Turned g f wide₀ t (i + 1)) (sym e) (merged_one wide' a same m)

    same_one : false ≡ affected (listed_in f) i → Turned g f wide₀ wide (i + 1)
    unfolding merged_row setting_of wide_row
    same_one a =
        record {
          written =
              written_same g.n g.width (merged_row (setting g) wide₀ (listed_in f)) wide₀ wide i w.written h
              (later ∙ ap (λ (k : ℕ). row k wide₀ i) limits.width_is ∙ ap row_by a);
        }

    pub turn_same : {after : List ℕ} → after ≡ wide → false ≡ affected (listed_in f) i → Turned g f wide₀ after (i + 1)
    turn_same e a = subst (λ (t : List ℕ). Turned g f wide₀ t (i + 1)) (sym e) (same_one a)

  pub all_merged : {wide : List ℕ} {i : ℕ} → Turned g f wide₀ wide i → (i < g.n → ⊥) → wide ≡ merged (setting g) wide₀ (listed_in f)
  unfolding merged setting_of
  all_merged {wide} {i} w h = written_all g.n g.width (merged_row (setting g) wide₀ (listed_in f)) wide₀ wide i w.written h
