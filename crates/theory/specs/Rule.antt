-- The tests of refusal 8. `build_rule` says exactly the build rule, both ways (n < pad: 2 lets no other n pass). What a table that keeps the rule is made of,
-- and that each of its words is padding or an id below n, which is the search rule, `search_rule`.
use Rattle.std.specs.Prelude.{ℕ, ◌-◌, ◌*◌, ◌≤◌, ◌<◌, ◌≡◌, refl, ◌⊎◌, true, ◌&&◌, ◌||◌, eqb, get_or}
use Rattle.std.proofs.Common.{zero-le, arith, sym, ◌∙◌, subst, inl, inr}
use Rattle.std.proofs.Math.Path.{ap}
use Rattle.std.proofs.Math.Bool.{not}
use mathlib.Core.List.{List, ◌++◌, Memᴰ as Mem}
use borrow.Author.Tests.{ltb-true, lt-ltb, eqb-true, eqb-false, not-true}
use Rattle.std.proofs.Math.Dec.{ltb}
use Rattle.std.proofs.Math.ListN.{length, drop, replicate}
use Rattle.std.proofs.Math.Seq.{drop_at}
use Rattle.definition.specs.Lists.{each, upto, is_in, distinct}
use Rattle.definition.specs.Tables.{pad, row, ids, padded, table_of, only_pad, ids_first, build_row, build_rule, search_rule}
use Rattle.laws.specs.Truth.{and_both, both_and, or_either, either_or, is_not, decide}
use Rattle.laws.specs.Members.{each_mem, mem_each, run-mem, mem-run, replicate_mem, append_elim, is_in-none, none-is_in, mem-at}
use Rattle.laws.specs.Apart.{Apart, distinct_apart, apart_distinct, apart_nodup, nodup_apart}
use Rattle.laws.specs.Tables.{row-length, row-mem, table_length, row_table_of, table_of_row, length-padded, pad_only, ids-of, ids-few, ids_split}
use Rattle.laws.specs.Places.{table_of_mem}
use Rattle.laws.specs.Words.{Searchable}
use Rattle.theory.specs.Kept.{RowKept, TableKept}

-- ids for the row of `own`
pub record Fit (n own : ℕ) (xs : List ℕ) : Type 0 where
  pub below : (x : ℕ) → Mem x xs → x < n
  pub not_own : ¬ Mem own xs
  pub once : Apart xs

-- ---- one row

pub padded_kept : (n width own : ℕ) (xs : List ℕ) → Fit n own xs → length xs ≤ width → RowKept n width own (padded width xs)
unfolding padded
padded_kept n width own xs f h = record { ids = xs; split = refl; most = h; below = f.below; not_own = f.not_own; once = apart_nodup f.once }

pub kept_length : (n width own : ℕ) (words : List ℕ) → RowKept n width own words → length words ≡ width
unfolding padded
kept_length n width own words k = ap (λ (l : List ℕ). length l) k.split ∙ length-padded width k.ids k.most

-- a row that passes the test
row_kept : (n width own : ℕ) (words : List ℕ) → length words ≡ width → build_row n own words ≡ true → RowKept n width own words
unfolding build_row
row_kept n width own words size t =
    let first = ids_first words in
    let once = distinct (ids words) in
    let below = each (λ w. ltb w n) (ids words) in
    let own_out = not (is_in own (ids words)) in
    let p = and_both (first && once && below) own_out t in
    let q = and_both (first && once) below p.0 in
    let r = and_both first once q.0 in
    record {
      ids = ids words;
      split = ids_split words r.0 ∙ ap (λ (s : ℕ). ids words ++ replicate (s - length (ids words)) pad) size;
      most = subst (λ (s : ℕ). length (ids words) ≤ s) size (ids-few words);
      below = λ x m. ltb-true x n (each_mem (λ w. ltb w n) (ids words) q.1 x m);
      not_own = is_in-none own (ids words) (not-true (is_in own (ids words)) p.1);
      once = apart_nodup (distinct_apart (ids words) r.1);
    }

module _ (n width own : ℕ) (words : List ℕ) (low : n < pad) where
  kept_ids : (k : RowKept n width own words) → ids words ≡ k.ids
  kept_ids k = ap (λ (l : List ℕ). ids l) k.split ∙ ids-of k.ids (width - length k.ids) (λ x m e. let h = k.below x m in omega arith)

  pub kept_fit : RowKept n width own words → Fit n own (ids words)
  kept_fit k =
      subst (λ (l : List ℕ). Fit n own l) (sym (kept_ids k)) (record { below = k.below; not_own = k.not_own; once = nodup_apart k.once })

  pub kept_few : RowKept n width own words → length (ids words) ≤ width
  kept_few k = subst (λ (l : List ℕ). length l ≤ width) (sym (kept_ids k)) k.most

  row_ruled : RowKept n width own words → build_row n own words ≡ true
  unfolding build_row ids_first
  row_ruled k =
      let first = ids_first words in
      let once = distinct (ids words) in
      let below = each (λ w. ltb w n) (ids words) in
      let own_out = not (is_in own (ids words)) in
      let f = kept_fit k in
      both_and (first && once && below) own_out
      (both_and (first && once) below
      (both_and first once (subst (λ (l : List ℕ). only_pad l ≡ true) (sym tail) (pad_only (width - length k.ids))) (apart_distinct f.once))
      (mem_each (λ w. ltb w n) (ids words) (λ x m. lt-ltb x n (f.below x m))))
      (is_not (is_in own (ids words)) (none-is_in own (ids words) f.not_own))
    where
      tail : drop (length (ids words)) words ≡ replicate (width - length k.ids) pad
      tail =
          ap (λ (l : List ℕ). drop (length (ids words)) l) k.split
          ∙ drop_at k.ids (replicate (width - length k.ids) pad) (length (ids words)) (ap (λ (l : List ℕ). length l) (sym (kept_ids k)))

-- ---- the table: both ways

pub rule_kept : (n width : ℕ) (table : List ℕ) → length table ≡ n * width → build_rule n width table ≡ true → TableKept n width table
unfolding build_rule upto
rule_kept n width table size t =
    record {
      size = size;
      rows = λ i h. row_kept n width i (row width table i) (row-length n width table size i h)
          (each_mem (λ i. build_row n i (row width table i)) (upto n) t i (mem-run 0 n i zero-le (omega arith)));
    }

pub kept_rule : (n width : ℕ) (table : List ℕ) → n < pad → TableKept n width table → build_rule n width table ≡ true
unfolding build_rule upto
kept_rule n width table low k =
    mem_each (λ i. build_row n i (row width table i)) (upto n)
    (λ i m. let b = run-mem 0 n m in row_ruled n width i (row width table i) low (k.rows i (omega arith)))

-- ---- made row by row

pub kept_table : (n width : ℕ) (rows : ℕ → List ℕ) → ((i : ℕ) → i < n → RowKept n width i (rows i)) → TableKept n width (table_of n rows)
kept_table n width rows k =
    let wide : (i : ℕ) → i < n → length (rows i) ≡ width = λ i h. kept_length n width i (rows i) (k i h) in
    record {
      size = table_length n width rows wide;
      rows = λ i h. subst (λ (l : List ℕ). RowKept n width i l) (sym (row_table_of n width rows wide i h)) (k i h);
    }

-- ---- what stands in it is padding or an id below n

kept_word : (n width own : ℕ) (words : List ℕ) → RowKept n width own words → (w : ℕ) → Mem w words → ¬ (w ≡ pad) → w < n
kept_word n width own words k w m =
    append_elim (λ u. ¬ (u ≡ pad) → u < n) k.ids (replicate (width - length k.ids) pad) (λ u h e. k.below u h)
    (λ u h e. absurd (e (replicate_mem (width - length k.ids) pad h))) w (subst (λ (l : List ℕ). Mem w l) k.split m)

pub kept_entry : (n width : ℕ) (table : List ℕ) → TableKept n width table → (w : ℕ) → Mem w table → ¬ (w ≡ pad) → w < n
kept_entry n width table k w m h =
    let r = table_of_mem n (row width table) (subst (λ (l : List ℕ). Mem w l) (sym (table_of_row n width table k.size)) m) in
    kept_word n width r.0 (row width table r.0) (k.rows r.0 r.1) w r.2 h

-- so in every row, also of those beyond n, which are empty
pub kept_words : (n width : ℕ) (table : List ℕ) → TableKept n width table → (i w : ℕ) → Mem w (row width table i) → ¬ (w ≡ pad) → w < n
kept_words n width table k i w m h = kept_entry n width table k w (row-mem width table i m) h

pub kept_searchable : {n width : ℕ} {table : List ℕ} → TableKept n width table → Searchable n table
unfolding pad
kept_searchable {n} {width} {table} k i h = kept_entry n width table k (get_or table i 0) (mem-at 0 table i h)

-- ---- a table under the build rule, as code reads it: its length, that it passes the test, and its words

pub record Ruled (n width : ℕ) (table : List ℕ) : Type 0 where
  pub size : length table ≡ n * width
  pub rule : build_rule n width table ≡ true
  pub words : Searchable n table

pub rule_ruled : (n width : ℕ) (table : List ℕ) → length table ≡ n * width → build_rule n width table ≡ true → Ruled n width table
rule_ruled n width table size t = record { size = size; rule = t; words = kept_searchable (rule_kept n width table size t) }

pub ruled_kept : {n width : ℕ} {table : List ℕ} → Ruled n width table → TableKept n width table
ruled_kept {n} {width} {table} r = rule_kept n width table r.size r.rule

pub kept_ruled : {n width : ℕ} {table : List ℕ} → n < pad → TableKept n width table → Ruled n width table
kept_ruled {n} {width} {table} low k = record { size = k.size; rule = kept_rule n width table low k; words = kept_searchable k }

-- ---- the search rule

pub search_rule-mem : (n : ℕ) (words : List ℕ) → search_rule n words ≡ true → (w : ℕ) → Mem w words → ¬ (w ≡ pad) → w < n
unfolding search_rule
search_rule-mem n words rule w m no_pad = go (or_either (eqb w pad) (ltb w n) (each_mem (λ u. eqb u pad || ltb u n) words rule w m))
  where
    go : (eqb w pad ≡ true) ⊎ (ltb w n ≡ true) → w < n
    go (inl e) = absurd (no_pad (eqb-true w pad e))
    go (inr t) = ltb-true w n t

pub search_rule_searchable : (n : ℕ) (words : List ℕ) → search_rule n words ≡ true → Searchable n words
unfolding pad
search_rule_searchable n words rule i h = search_rule-mem n words rule (get_or words i 0) (mem-at 0 words i h)

pub mem-search_rule : (n : ℕ) (words : List ℕ) → ((w : ℕ) → Mem w words → ¬ (w ≡ pad) → w < n) → search_rule n words ≡ true
unfolding search_rule
mem-search_rule n words f =
    mem_each (λ w. eqb w pad || ltb w n) words
    (λ w m. either_or (eqb w pad) (ltb w n) (decide (eqb w pad) (λ t. inl t) (λ t. inr (lt-ltb w n (f w m (eqb-false w pad t))))))

pub kept_search_rule : (n width : ℕ) (table : List ℕ) → TableKept n width table → search_rule n table ≡ true
kept_search_rule n width table k = mem-search_rule n table (kept_entry n width table k)
