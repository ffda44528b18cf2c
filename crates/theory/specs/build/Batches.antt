-- Open, a batch, the runs of a build and close keep rows; over any setting whose alpha is admitted.
use Rattle.std.specs.Prelude.{ℕ, zero, suc, ◌*◌, ◌≤◌, ◌<◌, ◌≡◌, refl, ◌≢◌, true, false, leb, ltb, eqb, length, take, drop}
use Rattle.std.proofs.Common.{le_refl, le_trans, sym}
use Rattle.std.proofs.Math.Path.{subst}
use Rattle.std.proofs.Math.Bool.{not}
use mathlib.Core.List.Memᴰ.{head as here}
use mathlib.Core.List.Memᴰ.{not-nil}
use mathlib.Core.List.Memᴰ.{tail as there}
use mathlib.Core.List.{List, [], ◌∷◌, ◌++◌, map, Memᴰ as Mem}
use mathlib.Core.List.Memᴰ.{of_map}
use borrow.Author.Tests.{leb-true, ltb-false, eqb-false, not-true}
use Rattle.definition.specs.Lists.{keep, joined, is_in, rising, groups}
use Rattle.definition.specs.Tables.{pad, row, ids, padded}
use Rattle.definition.specs.Floats.{four, above}
use Rattle.definition.specs.Slack.{slack}
use Rattle.definition.specs.Batch.{Setting, Listed, prune_ids, wide_row, wide_ids, collected, pool, fresh_of, fresh_rows, naming, affected, base, merged_ids, fitted}
use Rattle.definition.specs.Batch.{merged_row, merged, batch}
use Rattle.definition.specs.Build.{open', closed_ids, close, batch_size, batches}
use Rattle.laws.specs.Truth.{either, branch}
use Rattle.laws.specs.Members.{keep_mem, joined_mem, groups-mem, take_mem, drop_mem, cons_elim, append_elim}
use Rattle.laws.specs.Rising.{rising-mem, rising-apart}
use Rattle.laws.specs.Tables.{row_table_of, slack_wide}
use Rattle.theory.specs.Kept.{RowKept, TableKept}
use Rattle.theory.specs.Rule.{Fit, padded_kept, kept_length, kept_fit, kept_few, kept_table, kept_words}
use Rattle.theory.specs.prune.Pruned.{pruned-ids}
use Rattle.theory.specs.search.Ends.{visited_below}

-- what passes the test of not being x
differs : (w x : ℕ) → not (eqb w x) ≡ true → ¬ (w ≡ x)
differs w x t = eqb-false w x (not-true (eqb w x) t)

-- ---- open

pub opened_kept : (n degree : ℕ) (opening : List ℕ) → n < pad → TableKept n degree opening → TableKept n (slack degree) (open' n degree opening)
unfolding open'
opened_kept n degree opening low k =
    kept_table n (slack degree) (λ i. padded (slack degree) (ids (row degree opening i)))
    (λ i h.
    let r = k.rows i h in
    padded_kept n (slack degree) i (ids (row degree opening i)) (kept_fit n degree i (row degree opening i) low r)
    (le_trans (kept_few n degree i (row degree opening i) low r) (slack_wide degree)))

-- ---- what a batch and close do with a kept wide table

-- a listed node and its fresh row
record ListedFit (n : ℕ) (l : Listed) : Type 0 where
  low : l.node < n
  row : Fit n l.node l.fresh

module _ (g : Setting) (wide : List ℕ) (ok : above g.alpha four ≡ false) (low : g.n < pad) (kept : TableKept g.n (slack g.degree) wide) where
  word_below : (i w : ℕ) → Mem w (wide_row g wide i) → ¬ (w ≡ pad) → w < g.n
  unfolding wide_row
  word_below i w m h = kept_words g.n (slack g.degree) wide kept i w m h

  id_below : (i w : ℕ) → Mem w (wide_ids g wide i) → w < g.n
  unfolding wide_ids ids
  id_below i w m =
      let k = keep_mem (λ v. not (eqb v pad)) (wide_row g wide i) m in
      word_below i w k.0 (differs w pad k.1)

  wide_fit : (i : ℕ) → i < g.n → Fit g.n i (wide_ids g wide i)
  unfolding wide_ids wide_row
  wide_fit i h = kept_fit g.n (slack g.degree) i (row (slack g.degree) wide i) low (kept.rows i h)

  -- ids for a row of `width` words
  abbrev FitsIn : ℕ → ℕ → List ℕ → Type 0
  FitsIn width i xs = Fit g.n i xs × (length xs ≤ width)

  pruned_fits : (i width : ℕ) (xs : List ℕ) → g.degree ≤ width → ((x : ℕ) → Mem x xs → x < g.n) → FitsIn width i (prune_ids g i xs)
  pruned_fits i width xs h below =
      let p = pruned-ids g ok i xs in
      (record { below = λ x m. below x (p.within x m); not_own = p.not_own; once = p.once }, le_trans p.most h)

  -- ---- close

  closed_fits : (i : ℕ) (xs : List ℕ) → Fit g.n i xs → FitsIn g.degree i (closed_ids g i xs)
  unfolding closed_ids
  closed_fits i xs f =
      branch (λ (l : List ℕ). FitsIn g.degree i l) (ltb g.degree (length xs))
      (λ e. pruned_fits i g.degree (rising xs) (le_refl g.degree) (λ x m. f.below x (rising-mem xs m)))
      (λ e. (f, ltb-false g.degree (length xs) e))

  pub closed_kept : TableKept g.n g.degree (close g wide)
  unfolding close
  closed_kept =
      kept_table g.n g.degree (λ i. padded g.degree (closed_ids g i (wide_ids g wide i)))
      (λ i h.
      let r = closed_fits i (wide_ids g wide i) (wide_fit i h) in
      padded_kept g.n g.degree i (closed_ids g i (wide_ids g wide i)) r.0 r.1)

  -- ---- the fresh rows

  module _ (start : ℕ) (start-below : start < g.n) where
    collected_below : (node from x : ℕ) → from < g.n → Mem x (collected g wide node from) → x < g.n
    unfolding collected
    collected_below node from x h m =
        let good : (i w : ℕ) → i < g.n → Mem w (wide_row g wide i) → w ≢ pad → w < g.n = λ i w b. word_below i w in
        visited_below (record { d = g.pair node; rows = wide_row g wide; n = g.n; beam = g.beam; start = from; starts = h; good = good }) x m

    pool_below : (node : ℕ) (seeds : List ℕ) → ((s : ℕ) → Mem s seeds → s < g.n) → (x : ℕ) → Mem x (pool g wide start node seeds) → x < g.n
    unfolding pool
    pool_below node seeds b x m =
        append_elim (λ u. u < g.n) (wide_ids g wide node) (joined (map (collected g wide node) (start ∷ seeds))) (id_below node) found x
        (rising-mem (wide_ids g wide node ++ joined (map (collected g wide node) (start ∷ seeds))) m)
      where
        found : (u : ℕ) → Mem u (joined (map (collected g wide node) (start ∷ seeds))) → u < g.n
        found u h =
            let r = joined_mem (map (collected g wide node) (start ∷ seeds)) h in
            let s = of_map (collected g wide node) (start ∷ seeds) r.1 in
            collected_below node s.0 u (cons_elim (λ f. f < g.n) start seeds start-below b s.0 s.1)
            (subst (λ (l : List ℕ). Mem u l) (sym s.2) r.2)

    fresh_fits : (node : ℕ) (seeds : List ℕ) → node < g.n → ((s : ℕ) → Mem s seeds → s < g.n) → ListedFit g.n (fresh_of g wide start node seeds)
    unfolding fresh_of
    fresh_fits node seeds h b =
        record { low = h; row = (pruned_fits node g.degree (pool g wide start node seeds) (le_refl g.degree) (pool_below node seeds b)).0 }

    fresh_all : (nodes : List ℕ) (gs : List (List ℕ)) → ((u : ℕ) → Mem u nodes → u < g.n) → ((l : List ℕ) (s : ℕ) → Mem l gs → Mem s l → s < g.n)
        → (l : Listed) → Mem l (fresh_rows g wide start nodes gs) → ListedFit g.n l
    unfolding fresh_rows
    fresh_all [] gs a b l m = absurd (not-nil m)
    fresh_all (u ∷ us) [] a b l m = absurd (not-nil m)
    fresh_all (u ∷ us) (s ∷ gs) a b l m =
        cons_elim (λ k. ListedFit g.n k) (fresh_of g wide start u s) (fresh_rows g wide start us gs)
        (fresh_fits u s (a u (here refl)) (λ x i. b s x (here refl) i))
        (fresh_all us gs (λ v i. a v (there i)) (λ k x i. b k x (there i))) l m

  -- ---- the merge

  module _ (ls : List Listed) (fits : (l : Listed) → Mem l ls → ListedFit g.n l) where
    naming_below : (i x : ℕ) → Mem x (naming ls i) → x < g.n
    unfolding naming
    naming_below i x m =
        let r = of_map (λ (l : Listed). l.node) (keep (λ l. is_in i l.fresh) ls) m in
        subst (λ (z : ℕ). z < g.n) r.2 (fits r.0 (keep_mem (λ l. is_in i l.fresh) ls r.1).0).low

  base_below : (ls : List Listed) → ((l : Listed) → Mem l ls → ListedFit g.n l) → (i x : ℕ) → Mem x (base g wide ls i) → x < g.n
  unfolding base
  base_below [] f i x m = id_below i x m
  base_below (l ∷ ls) f i x m₀ =
      (either (λ (xs : List ℕ). Mem x xs → x < g.n) (eqb i l.node) (λ m. (f l (here refl)).row.below x m)
      (λ m. base_below ls (λ k h. f k (there h)) i x m)) m₀

  merged_fit : (ls : List Listed) → ((l : Listed) → Mem l ls → ListedFit g.n l) → (i : ℕ) → Fit g.n i (merged_ids g wide ls i)
  unfolding merged_ids
  merged_fit ls f i =
      record {
        below = λ x m. append_elim (λ u. u < g.n) (base g wide ls i) (naming ls i) (base_below ls f i) (naming_below ls f i) x (from m).0;
        not_own = λ m. differs i i (from m).1 refl;
        once = rising-apart (keep (λ w. not (eqb w i)) (base g wide ls i ++ naming ls i));
      }
    where
      from : {x : ℕ} → Mem x (rising (keep (λ w. not (eqb w i)) (base g wide ls i ++ naming ls i)))
          → Mem x (base g wide ls i ++ naming ls i) × (not (eqb x i) ≡ true)
      from m = keep_mem (λ w. not (eqb w i)) (base g wide ls i ++ naming ls i) (rising-mem (keep (λ w. not (eqb w i)) (base g wide ls i ++ naming ls i)) m)

  fitted_fits : (i : ℕ) (xs : List ℕ) → Fit g.n i xs → FitsIn (slack g.degree) i (fitted g i xs)
  unfolding fitted
  fitted_fits i xs f =
      branch (λ (l : List ℕ). FitsIn (slack g.degree) i l) (leb (length xs) (slack g.degree)) (λ e. (f, leb-true (length xs) (slack g.degree) e))
      (λ e. pruned_fits i (slack g.degree) xs (slack_wide g.degree) f.below)

  row_kept : (ls : List Listed) → ((l : Listed) → Mem l ls → ListedFit g.n l) → (i : ℕ) → i < g.n
      → RowKept g.n (slack g.degree) i (merged_row g wide ls i)
  unfolding merged_row wide_row
  row_kept ls f i h =
      let r = fitted_fits i (merged_ids g wide ls i) (merged_fit ls f i) in
      either (λ (l : List ℕ). RowKept g.n (slack g.degree) i l) (affected ls i)
      (padded_kept g.n (slack g.degree) i (fitted g i (merged_ids g wide ls i)) r.0 r.1) (kept.rows i h)

  -- the nodes of a batch and their groups of seeds
  module _ (start extra : ℕ) (nodes seeds : List ℕ) (h : start < g.n) (a : (u : ℕ) → Mem u nodes → u < g.n) (b : (s : ℕ) → Mem s seeds → s < g.n) where
    abbrev made : List Listed
    made = fresh_rows g wide start nodes (groups (length nodes) extra seeds)

    rows_kept : (i : ℕ) → i < g.n → RowKept g.n (slack g.degree) i (merged_row g wide made i)
    rows_kept =
        row_kept made (fresh_all start h nodes (groups (length nodes) extra seeds) a (λ l s m i. b s (groups-mem (length nodes) extra seeds m i)))

    pub batch_kept_lem : TableKept g.n (slack g.degree) (batch g start extra nodes seeds wide)
    unfolding batch merged
    batch_kept_lem = kept_table g.n (slack g.degree) (merged_row g wide made) rows_kept

    -- its row i is the merged one
    pub batch_row : (i : ℕ) → i < g.n
        → row (slack g.degree) (batch g start extra nodes seeds wide) i
        ≡ merged_row g wide (fresh_rows g wide start nodes (groups (length nodes) extra seeds)) i
    unfolding batch merged
    batch_row =
        row_table_of g.n (slack g.degree) (merged_row g wide made)
        (λ j k. kept_length g.n (slack g.degree) j (merged_row g wide made j) (rows_kept j k))

-- ---- the runs of a whole build

pub batches_kept : (g : Setting) → above g.alpha four ≡ false → g.n < pad → (start extra fuel : ℕ) (order seeds wide : List ℕ) → start < g.n
    → ((u : ℕ) → Mem u order → u < g.n) → ((s : ℕ) → Mem s seeds → s < g.n)
    → TableKept g.n (slack g.degree) wide → TableKept g.n (slack g.degree) (batches g start extra fuel order seeds wide)
unfolding batches
batches_kept g ok low start extra zero order seeds wide h a b k = k
batches_kept g ok low start extra (suc fuel) [] seeds wide h a b k = k
batches_kept g ok low start extra (suc fuel) (u ∷ us) seeds wide h a b k =
    batches_kept g ok low start extra fuel (drop batch_size (u ∷ us)) (drop (batch_size * extra) seeds)
    (batch g start extra (take batch_size (u ∷ us)) (take (batch_size * extra) seeds) wide) h
    (λ v m. a v (drop_mem batch_size (u ∷ us) m)) (λ s m. b s (drop_mem (batch_size * extra) seeds m))
    (batch_kept_lem g wide ok low k start extra (take batch_size (u ∷ us)) (take (batch_size * extra) seeds) h
    (λ v m. a v (take_mem batch_size (u ∷ us) m)) (λ s m. b s (take_mem (batch_size * extra) seeds m)))
