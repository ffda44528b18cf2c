-- Row by row the fresh rows are the definition's, so the listed nodes with their rows are.
use mathlib.Core.Path.{◌≡◌, refl, sym, ap, ap₂, ◌∙◌, subst}
use mathlib.Core.Logic.{◌⊎◌, inl, inr}
use mathlib.Core.List.{List, [], ◌∷◌, Memᴰ as Mem}
use Prim.Native.Nat.{ℕ, suc, ◌+◌, ◌*◌, ◌-◌, ◌≤◌, ◌<◌}
use native.Mathlib.Nat.{add-sub_cancel_left, eq-or-lt_of_le, suc-mul, zero-mul, add_comm}
use native.Mathlib.Numerals.{add-one}
use native.Mathlib.Omega.{arith}
use lib.ListN.{length, get_or, take, drop}
use lib.Seq.{drop-drop}
use Rattle.definition.specs.Lists.{groups}
use Rattle.definition.specs.Tables.{pad, ids, padded}
use Rattle.definition.specs.Batch.{Setting, Listed, fresh_of, fresh_rows}
use Rattle.laws.specs.Listed.{fresh_width, listed_at}
use Rattle.laws.specs.Tables.{ids-of, row_fits}
use Rattle.laws.specs.Parts.{part, part_length, within_wider, within_trans}
use Rattle.theory.specs.build.Walks.{node_walks_lem, batch-walks, epoch_after, epoch_end}
use Rattle.scratch.specs.Layout.{most_factors, fresh_at, fresh_row_at}
use Rattle.scratch.specs.Lent.{Lent}
use Rattle.given.specs.Given.{Given, setting}
use Rattle.given.specs.Listing.{Listing, walks_of, Listable}
use Rattle.given.specs.Fresh.{fresh_row}
use Rattle.batch_fresh.specs.Made.{Fit, Insertion, insertion, inserted, walks_for, fresh_for, RowMade, RowsMade, FreshRows}

ids-padded : (width : ℕ) (xs : List ℕ) → ((x : ℕ) → Mem x xs → x ≡ pad → ⊥) → ids (padded width xs) ≡ xs
unfolding padded
ids-padded width xs f = ids-of xs (width - length xs) f

-- the listed node at place q, its group of seeds as it is lent
abbrev lent_to : Given → Listing → ℕ → Insertion
lent_to g l q = insertion q (get_or l.nodes q 0) l.start (part (q * g.params.extra) (q * g.params.extra + g.params.extra) l.seeds)

-- ---- all rows: `t` is the words from the first fresh row on
module _ (g : Setting) (wide : List ℕ) (start extra : ℕ) where
  abbrev fresh_after : ℕ → List ℕ → List ℕ
  fresh_after node seeds = (fresh_of g wide start node (take extra seeds)).fresh

  pub listed_rows : (nodes t seeds : List ℕ)
      → ((q : ℕ) → q < length nodes → ids (take fresh_width (drop (fresh_width * q) t)) ≡ fresh_after (get_or nodes q 0) (drop (q * extra) seeds))
      → listed_at nodes t ≡ fresh_rows g wide start nodes (groups (length nodes) extra seeds)
  unfolding listed_at fresh_rows groups fresh_of
  listed_rows [] t seeds f = refl
  listed_rows (u ∷ us) t seeds f =
      ap₂ (λ (x : List ℕ) (l : List Listed). record { node = u; fresh = x } ∷ l)
      (rw (zero-mul extra) at (f 0 (omega arith)))
      (listed_rows us (drop fresh_width t) (drop extra seeds) (λ q h.
      let a : fresh_width + fresh_width * q ≡ fresh_width * suc q = omega arith in
      let b : extra + q * extra ≡ suc q * extra = add_comm extra (q * extra) ∙ sym (suc-mul q extra) in
      ap (λ (l : List ℕ). ids (take fresh_width l)) (drop-drop (fresh_width * q) fresh_width t ∙ ap (λ (k : ℕ). drop k t) a)
      ∙ f (suc q) (omega arith)
      ∙ sym (ap (fresh_after (get_or us q 0)) (drop-drop (q * extra) extra seeds ∙ ap (λ (k : ℕ). drop k seeds) b))))

module _ {g : Given} {wide : List ℕ} {l : Listing} {before at : Lent} {k : ℕ} (m : RowsMade g wide l before at k) where
  module _ {after : Lent} (r : RowMade g wide (inserted g l k) at after) where
    row_at : (q : ℕ) → (q ≡ k) ⊎ (q < k) → fresh_row g.n q after.words ≡ padded fresh_width (fresh_for g wide (inserted g l q))
    row_at q (inl e) = subst (λ (j : ℕ). fresh_row g.n j after.words ≡ padded fresh_width (fresh_for g wide (inserted g l j))) (sym e) r.row
    row_at q (inr h) = r.earlier q h ∙ m.rows q h

    fit_at : (q : ℕ) → (q ≡ k) ⊎ (q < k) → Fit g.n (get_or l.nodes q 0) (fresh_for g wide (inserted g l q))
    fit_at q (inl e) = subst (λ (j : ℕ). Fit g.n (get_or l.nodes j 0) (fresh_for g wide (inserted g l j))) (sym e) r.fit
    fit_at q (inr h) = m.fits q h

    le_of : (q : ℕ) → q < k + 1 → q ≤ k
    le_of q h = omega arith

    rows_next : RowsMade g wide l before after (k + 1)
    rows_next =
        let end = fresh_row_at g.n (k + 1) in
        record {
          rows = λ q h. row_at q (eq-or-lt_of_le (le_of q h));
          fits = λ q h. fit_at q (eq-or-lt_of_le (le_of q h));
          words_kept =
              within_trans 0 end before.words at.words after.words
              (within_wider 0 (fresh_row_at g.n k) before.words at.words m.words_kept 0 end (omega arith) (omega arith))
              (within_wider 0 (fresh_row_at g.n k + fresh_width) at.words after.words r.words_kept 0 end (omega arith) (omega arith));
          floats_kept = within_trans 0 most_factors before.floats at.floats after.floats m.floats_kept r.floats_kept;
        }

  lent_group : (lent_to g l k).seeds ≡ (inserted g l k).seeds
  lent_group = rw add-sub_cancel_left refl

  pub rows_more : {after : Lent} → RowMade g wide (lent_to g l k) at after → RowsMade g wide l before after (k + 1)
  rows_more {after} r = rows_next (subst (λ (s : List ℕ). RowMade g wide (insertion k (get_or l.nodes k 0) l.start s) at after) lent_group r)

  module _ (small : g.n ≤ 65536) (all : k ≡ length l.nodes) where
    no_pad : (x : ℕ) → x < g.n → x ≡ pad → ⊥
    unfolding pad
    no_pad x h e = omega arith

    ids_at : (q : ℕ) → q < k → ids (take fresh_width (drop (fresh_width * q) (drop (fresh_at g.n) at.words))) ≡ fresh_for g wide (inserted g l q)
    ids_at q h =
        let w : fresh_width ≡ (fresh_row_at g.n q + fresh_width) - fresh_row_at g.n q = omega arith in
        ap (λ (l : List ℕ). ids (take fresh_width l)) (drop-drop (fresh_width * q) (fresh_at g.n) at.words)
        ∙ ap (λ (j : ℕ). ids (take j (drop (fresh_row_at g.n q) at.words))) w
        ∙ ap ids (m.rows q h)
        ∙ ids-padded fresh_width (fresh_for g wide (inserted g l q)) (λ x i. no_pad x ((m.fits q h).below x i))

    pub rows_all : FreshRows g wide l before at
    unfolding fresh_for
    rows_all =
        record {
          are = listed_rows (setting g) wide l.start g.params.extra l.nodes (drop (fresh_at g.n) at.words) l.seeds
              (λ q h. ids_at q (omega arith));
          made = subst (RowsMade g wide l before at) all m;
        }

-- ---- the epoch: one and its seeds for each node
module _ {g : Given} {l : Listing} (ok : Listable g l) (wide : List ℕ) where
  abbrev extra : ℕ
  extra = g.params.extra

  all_walks : length (walks_of g wide l) ≡ length l.nodes + length l.nodes * extra
  all_walks = batch-walks wide l.start extra l.nodes l.seeds ok.groups ∙ ap (λ (k : ℕ). length l.nodes + k) ok.groups

  module _ (epoch p : ℕ) {last : ℕ} (is : last ≡ epoch + (p + p * extra)) where
    module _ (more : p < length l.nodes) where
      -- its group is whole
      group_ends : p * extra + extra ≤ length l.nodes * extra
      group_ends = row_fits p (length l.nodes) extra more

      next_walks : length (walks_for wide (lent_to g l p)) ≡ 1 + extra
      next_walks =
          let size = ok.groups in
          let ends = group_ends in
          let group = part_length (p * extra) (p * extra + extra) l.seeds (omega arith) in
          omega (arith, node_walks_lem wide l.start (get_or l.nodes p 0) (lent_to g l p).seeds)

      pub epoch_room : epoch_after epoch (walks_of g wide l) < epoch_end → epoch_after last (walks_for wide (lent_to g l p)) < epoch_end
      epoch_room room = omega (arith, all_walks, next_walks, group_ends)

      pub epoch_more : {r : ℕ} → r ≡ epoch_after last (walks_for wide (lent_to g l p)) → r ≡ epoch + ((p + 1) + (p + 1) * extra)
      epoch_more e = let one : (p + 1) * extra ≡ p * extra + extra = rw (add-one p) (suc-mul p extra) in omega (arith, next_walks)

    pub epoch_all : p ≡ length l.nodes → last ≡ epoch_after epoch (walks_of g wide l)
    epoch_all all = let q : p * extra ≡ length l.nodes * extra = ap (λ (k : ℕ). k * extra) all in omega (arith, all_walks)
