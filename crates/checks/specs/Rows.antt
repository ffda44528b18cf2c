-- The build rule row by row, as the code tests it.
use Rattle.std.specs.Prelude.{◌≡◌, ℕ, suc, ◌+◌, ◌-◌, ◌*◌, ◌<◌, ◌≤◌, Bool, true, false, cond, not, ◌&&◌, ◌||◌, ltb, List, [], ◌∷◌, length, take, drop}
use Rattle.std.specs.Prelude.{replicate, ◌==◌, nat_lt}
use Rattle.std.proofs.Math.Path.{refl, sym, ap}
use Rattle.std.proofs.Common.{◌∙◌, take_at}
use Rattle.std.proofs.Math.Bool.{and-true, and-false}
use Rattle.std.proofs.Math.Numerals.{add-one}
use native.Mathlib.Omega.{arith}
use Rattle.std.proofs.lemmas.Bool.{not-true, not-false}
use Rattle.definition.specs.Lists.{each, keep, run, upto, is_in, distinct}
use Rattle.definition.specs.Tables.{pad, row, ids, only_pad, ids_first, build_row, build_rule, search_rule}
use Rattle.definition.specs.Refusals.{bad_length, bad_table}
use Rattle.laws.specs.Tables.{row_fits, ids_split}
use Rattle.laws.specs.Parts.{part_length}
use Rattle.laws.specs.Truth.{and_both}
use Rattle.checks.specs.Lengths.{wrong_length}
use Rattle.checks.specs.Lent.{part_is, rest_is}
use Rattle.checks.specs.Below.{all_below}
use Rattle.checks.specs.Front.{entries, front_is, entries_ids}
use Rattle.checks_repeats.specs.Apart.{apart, apart-one}

-- ---- one row

pub record RowReady (n own : ℕ) (marks words : List ℕ) : Type 0 where
  pub nodes : n ≤ 65536
  pub own_in : own < n
  pub room : length marks ≡ 16384
  pub few : length words ≤ 128

-- the ids of a row are below n exactly if its words keep the search rule
pub rule_ids : (n : ℕ) (words : List ℕ) → search_rule n words ≡ all_below n (ids words)
unfolding search_rule all_below ids each keep
rule_ids n [] = refl
rule_ids n (w ∷ ws) = go (w == pad) (rule_ids n ws)
  where
    go : (t : Bool) → each (λ w. (w == pad) || nat_lt w n) ws ≡ each (λ u. ltb u n) (keep (λ w. not (w == pad)) ws)
        → ((t || nat_lt w n) && each (λ w. (w == pad) || nat_lt w n) ws)
        ≡ each (λ u. ltb u n) (cond (not t) (w ∷ keep (λ w. not (w == pad)) ws) (keep (λ w. not (w == pad)) ws))
    go true e = e
    go false e = ap (λ (t : Bool). nat_lt w n && t) e

-- where the ids come first, they are the first words
pub ids_are : (ws : List ℕ) → ids_first ws ≡ true → ids ws ≡ take (length (ids ws)) ws
ids_are ws e =
    let k = length (ids ws) in
    sym (ap (λ (l : List ℕ). take k l) (ids_split ws e) ∙ take_at (ids ws) (replicate (length ws - k) pad) k refl)

-- ---- the tests of one row
module _ (n own : ℕ) (words : List ℕ) where
  build_row_lem : (a b c d : Bool) → ids_first words ≡ a → distinct (ids words) ≡ b → each (λ w. ltb w n) (ids words) ≡ c → not (is_in own (ids words)) ≡ d
      → build_row n own words ≡ (a && b && c && d)
  unfolding build_row
  build_row_lem a b c d p q r s = rw (p, q, r, s) refl

  pub row_foreign : search_rule n words ≡ false → build_row n own words ≡ false
  unfolding all_below
  row_foreign e = build_row_lem _ _ false _ refl refl (sym (rule_ids n words) ∙ e) refl ∙ rw (and-false (ids_first words && distinct (ids words))) refl

  pub row_mixed : ids_first words ≡ false → build_row n own words ≡ false
  row_mixed e = build_row_lem false _ _ _ e refl refl refl

  pub row_repeats : search_rule n words ≡ true → ids_first words ≡ true → build_row n own words ≡ apart (own ∷ []) (take (length (ids words)) words)
  unfolding all_below
  row_repeats e f =
      build_row_lem true _ true _ f refl (sym (rule_ids n words) ∙ e) refl
      ∙ ap (λ (t : Bool). t && not (is_in own (ids words))) (and-true (distinct (ids words)))
      ∙ sym (apart-one own (ids words))
      ∙ ap (λ (l : List ℕ). apart (own ∷ []) l) (ids_are words f)

  module _ (few : n ≤ 65536) (count : ℕ) (size : count ≡ length (entries n words)) (inside : count ≤ length words) where
    rest_front : only_pad (take (length words - count) (drop count words)) ≡ (ids_first words && search_rule n words)
    rest_front =
        ap (λ (l : List ℕ). only_pad l) (rest_is count words inside) ∙ ap (λ (k : ℕ). only_pad (drop k words)) size ∙ front_is n few words

    -- a word beyond them is no padding
    pub row_bad_rest : only_pad (take (length words - count) (drop count words)) ≡ false → true ≡ not (build_row n own words)
    row_bad_rest e = ap not (sym (go (ids_first words) refl (sym rest_front ∙ e)))
      where
        go : (t : Bool) → ids_first words ≡ t → (t && search_rule n words) ≡ false → build_row n own words ≡ false
        go true q h = row_foreign h
        go false q h = row_mixed q

    -- they are the ids of the row
    pub row_end : only_pad (take (length words - count) (drop count words)) ≡ true → (r : Bool) → r ≡ not (apart (own ∷ []) (take count words))
        → r ≡ not (build_row n own words)
    row_end e r p =
        let s = and_both (ids_first words) _ (sym rest_front ∙ e) in
        let all : count ≡ length (ids words) = size ∙ ap length (entries_ids n few words s.1) in
        p ∙ ap not (ap (λ (k : ℕ). apart (own ∷ []) (take k words)) all ∙ sym (row_repeats s.1 s.0))

-- ---- the rows from row i on
pub record Rowed (n width : ℕ) (table : List ℕ) (i : ℕ) (marks : List ℕ) : Type 0 where
  pub upto : i ≤ n
  pub room : length marks ≡ 16384
  pub same : each (λ k. build_row n k (row width table k)) (run i (n - i)) ≡ build_rule n width table

module _ (n width : ℕ) (table : List ℕ) where
  pub rows_start : (marks : List ℕ) → length marks ≡ 16384 → Rowed n width table 0 marks
  unfolding build_rule upto
  rows_start marks h = let z : n - 0 ≡ n = omega arith in record { upto = omega arith; room = h; same = rw z refl }

  module _ (i : ℕ) (marks : List ℕ) (w : Rowed n width table i marks) (h : i < n) where
    rows_step : each (λ k. build_row n k (row width table k)) (run i (n - i))
        ≡ (build_row n i (row width table i) && each (λ k. build_row n k (row width table k)) (run (i + 1) (n - (i + 1))))
    unfolding each run
    rows_step = let k : n - i ≡ suc (n - (i + 1)) = omega arith in rw (k, add-one i) refl

    pub row_ready : n ≤ 65536 → width ≤ 128 → length table ≡ n * width → RowReady n i marks (take (i * width + width - i * width) (drop (i * width) table))
    row_ready few slim size = record {
      nodes = few;
      own_in = h;
      room = w.room;
      few = let f = row_fits i n width h in let e = part_length (i * width) (i * width + width) table (omega arith) in omega arith;
    }

    module _ (r : Bool) (t : r ≡ not (build_row n i (take (i * width + width - i * width) (drop (i * width) table)))) where
      tested : r ≡ not (build_row n i (row width table i))
      unfolding row
      tested = t ∙ ap (λ (l : List ℕ). not (build_row n i l)) (part_is width (i * width) table)

      pub rows_bad : r ≡ true → true ≡ not (build_rule n width table)
      rows_bad e =
          let bad : build_row n i (row width table i) ≡ false = not-true _ (sym tested ∙ e) in
          let broken : each (λ k. build_row n k (row width table k)) (run i (n - i)) ≡ false = rows_step ∙ rw bad refl in
          ap not (sym broken ∙ w.same)

      pub rows_more : r ≡ false → (after : List ℕ) → length after ≡ length marks → Rowed n width table (i + 1) after
      rows_more e after size =
          let good : build_row n i (row width table i) ≡ true = not-false _ (sym tested ∙ e) in
          let kept : each (λ k. build_row n k (row width table k)) (run i (n - i))
          ≡ each (λ k. build_row n k (row width table k)) (run (i + 1) (n - (i + 1))) = rows_step ∙ rw good refl in
          record { upto = omega arith; room = size ∙ w.room; same = sym kept ∙ w.same }

  pub rows_end : (i : ℕ) (marks : List ℕ) → Rowed n width table i marks → n ≤ i → false ≡ not (build_rule n width table)
  unfolding each run
  rows_end i marks w h =
      let z : n - i ≡ 0 = omega arith in
      let ended : each (λ k. build_row n k (row width table k)) (run i (n - i)) ≡ true = rw z refl in
      ap not (sym ended ∙ w.same)

  -- ---- the table
  pub table_length : wrong_length n width (length table) ≡ true → true ≡ bad_table n width table
  unfolding bad_table bad_length wrong_length
  table_length e = rw e refl

  pub table_rule : wrong_length n width (length table) ≡ false → not (build_rule n width table) ≡ bad_table n width table
  unfolding bad_table bad_length wrong_length
  table_rule e = rw e refl
