-- The checks, by number. `X-good` tells what is known where a check is passed, `X-passes` what passes it.
use Rattle.std.specs.Prelude.{ℕ, ◌+◌, ◌*◌, ◌≤◌, ◌<◌, ◌≡◌, refl, true, false, not, ◌&&◌, ◌||◌, leb, ltb, eqb, Float, length}
use Rattle.std.proofs.Common.{arith, ap, true≢false, ltb-true, ltb-false, lt-ltb, le-ltb, leb-false, eqb-true, eq-eqb}
use Rattle.std.proofs.Math.Bool.{or-false}
use mathlib.Core.List.{List, Memᴰ as Mem}
use Rattle.std.proofs.lemmas.Bool.{eqb-false, not-false}
use Rattle.std.specs.Float.{nan, inf, fin}
use Rattle.std.specs.Float.Ieee.{up, down, lt, of_bits}
use Rattle.definition.specs.Lists.{each, distinct, groups}
use Rattle.definition.specs.Tables.{pad, build_rule, search_rule, cleaned}
use Rattle.definition.specs.Floats.{one, four, above}
use Rattle.definition.specs.Refusals.{bad_dim, bad_count, bad_vectors, bad_degree, bad_beam, bad_alpha, bad_start, bad_extra, good_group, bad_seeds, bad_length, bad_table}
use Rattle.definition.specs.Refusals.{bad_searched, bad_nodes, bad_order, short, build_words, build_floats, bad_pivots}
use Rattle.laws.specs.Truth.{and_both, or_neither, neither_or}
use Rattle.laws.specs.Members.{each_mem, mem_each, mem-groups}
use Rattle.laws.specs.Cleaned.{length-cleaned, cleaned_rule}
use Rattle.laws.specs.Apart.{Apart, distinct_apart, apart_distinct}
use Rattle.theory.specs.Kept.{TableKept}
use Rattle.theory.specs.Rule.{Ruled, rule_ruled, kept_rule, kept_search_rule}

-- ---- 1 and 2

pub dim_good : (dim : ℕ) → bad_dim dim ≡ false → (1 ≤ dim) × (dim ≤ 256)
unfolding bad_dim
dim_good dim e = let s = or_neither (eqb dim 0) (ltb 256 dim) e in let z = eqb-false dim 0 s.0 in (omega arith, ltb-false 256 dim s.1)

pub count_some : (n : ℕ) → bad_count n ≡ false → 1 ≤ n
unfolding bad_count
count_some n e = let s = or_neither (eqb n 0) (ltb 65536 n) e in let z = eqb-false n 0 s.0 in omega arith

pub count_few : (n : ℕ) → bad_count n ≡ false → n ≤ 65536
unfolding bad_count
count_few n e = ltb-false 65536 n (or_neither (eqb n 0) (ltb 65536 n) e).1

pub count_good : (n : ℕ) → bad_count n ≡ false → (1 ≤ n) × (n ≤ 65536)
count_good n e = (count_some n e, count_few n e)

-- no id is the padding word
pub count_low : {n : ℕ} → n ≤ 65536 → n < pad
unfolding pad
count_low h = omega arith

pub vectors_good : (n dim : ℕ) (vectors : List ℕ) → bad_vectors n dim vectors ≡ false → (1 ≤ n) × (n ≤ 65536) × (length vectors ≡ n * dim)
unfolding bad_vectors
vectors_good n dim vectors e =
    let s = or_neither (bad_count n) (not (eqb (length vectors) (n * dim))) e in
    (count_some n s.0, count_few n s.0, eqb-true (length vectors) (n * dim) (not-false _ s.1))

pub record Entries (n dim : ℕ) (vectors : List ℕ) : Type 0 where
  pub dim_some : 1 ≤ dim
  pub dim_few : dim ≤ 256
  pub nodes_some : 1 ≤ n
  pub nodes : n ≤ 65536
  pub vectors_are : length vectors ≡ n * dim

pub entries_good : (n dim : ℕ) (vectors : List ℕ) → bad_dim dim ≡ false → bad_vectors n dim vectors ≡ false → Entries n dim vectors
entries_good n dim vectors e f =
    let d = dim_good dim e in
    let v = vectors_good n dim vectors f in
    record { dim_some = d.0; dim_few = d.1; nodes_some = v.0; nodes = v.1; vectors_are = v.2 }

-- ---- 3 to 6

pub record Degree (degree : ℕ) : Type 0 where
  pub some : 1 ≤ degree
  pub few : degree ≤ 64

pub degree_good : (degree : ℕ) → bad_degree degree ≡ false → Degree degree
unfolding bad_degree
degree_good degree e =
    let s = or_neither (eqb degree 0) (ltb 64 degree) e in
    let z = eqb-false degree 0 s.0 in
    record { some = omega arith; few = ltb-false 64 degree s.1 }

pub beam_good : (beam : ℕ) → bad_beam beam ≡ false → beam ≤ 256
unfolding bad_beam
beam_good beam e = ltb-false 256 beam e

-- an alpha that pruning takes: at most 4.0, or NaN
abbrev pub AlphaLow : Float → Type 0
AlphaLow alpha = above alpha four ≡ false

pub alpha_good : (alpha : Float) → bad_alpha alpha ≡ false → AlphaLow alpha
unfolding bad_alpha
alpha_good alpha e = e

-- one that is not above 1.0 is checked as 1.0 is
pub alpha_one : (alpha : Float) → lt one alpha ≡ false → bad_alpha alpha ≡ bad_alpha one
unfolding bad_alpha above lt one four of_bits
alpha_one nan h = refl
alpha_one (inf true) h = refl
alpha_one (inf false) h = absurd (true≢false h)
alpha_one (fin true m e) h = refl
alpha_one (fin false m e) h = let k = ltb-false (1 * down e) (m * up e * 1) h in le-ltb (4 * down e) (m * up e * 1) (omega arith)

pub start_good : (n start : ℕ) → bad_start n start ≡ false → start < n
unfolding bad_start
start_good n start e = leb-false n start e

-- ---- 7

pub extra_good : (n extra : ℕ) → bad_extra n extra ≡ false → (extra ≤ 16) × (extra < n)
unfolding bad_extra
extra_good n extra e = let s = or_neither (ltb 16 extra) (leb n extra) e in (ltb-false 16 extra s.0, leb-false n extra s.1)

-- `extra` seeds for each of `count` nodes
pub record Seeded (n extra start count : ℕ) (seeds : List ℕ) : Type 0 where
  pub limits : bad_extra n extra ≡ false
  pub size : length seeds ≡ count * extra
  pub good : (group : List ℕ) → Mem group (groups count extra seeds) → good_group n start group ≡ true
  pub below : (s : ℕ) → Mem s seeds → s < n

group-below : (n start : ℕ) (group : List ℕ) → good_group n start group ≡ true → (s : ℕ) → Mem s group → s < n
unfolding good_group
group-below n start group g s m =
    let t = each (λ u. ltb u n && not (eqb u start)) group in
    let q = each_mem (λ u. ltb u n && not (eqb u start)) group (and_both t (distinct group) g).0 s m in
    ltb-true s n (and_both (ltb s n) (not (eqb s start)) q).0

pub seeds_good : (n extra start count : ℕ) (seeds : List ℕ) → bad_seeds n extra start count seeds ≡ false → Seeded n extra start count seeds
unfolding bad_seeds
seeds_good n extra start count seeds e =
    let gs = groups count extra seeds in
    let s = or_neither (bad_extra n extra) _ e in
    let t = or_neither (not (eqb (length seeds) (count * extra))) (not (each (good_group n start) gs)) s.1 in
    let size : length seeds ≡ count * extra = eqb-true _ _ (not-false _ t.0) in
    let good : (group : List ℕ) → Mem group gs → good_group n start group ≡ true = each_mem (good_group n start) gs (not-false _ t.1) in
    record {
      limits = s.0;
      size = size;
      good = good;
      below = λ x m. let r = mem-groups count extra seeds size m in group-below n start r.0 (good r.0 r.1) x r.2;
    }

pub seeds_passes : (n extra start count : ℕ) (seeds : List ℕ) → bad_extra n extra ≡ false → length seeds ≡ count * extra
    → ((group : List ℕ) → Mem group (groups count extra seeds) → good_group n start group ≡ true) → bad_seeds n extra start count seeds ≡ false
unfolding bad_seeds
seeds_passes n extra start count seeds limits size good =
    let gs = groups count extra seeds in
    neither_or (bad_extra n extra) (not (eqb (length seeds) (count * extra)) || not (each (good_group n start) gs)) limits
    (neither_or (not (eqb (length seeds) (count * extra))) (not (each (good_group n start) gs))
    (ap not (eq-eqb (length seeds) (count * extra) size)) (ap not (mem_each (good_group n start) gs good)))

-- ---- 8

pub length_good : (n width : ℕ) (table : List ℕ) → bad_length n width table ≡ false → length table ≡ n * width
unfolding bad_length
length_good n width table e = eqb-true (length table) (n * width) (not-false _ e)

pub length-passes : (n width : ℕ) (table : List ℕ) → length table ≡ n * width → bad_length n width table ≡ false
unfolding bad_length
length-passes n width table e = ap not (eq-eqb (length table) (n * width) e)

pub table_good : (n width : ℕ) (table : List ℕ) → bad_table n width table ≡ false → Ruled n width table
unfolding bad_table
table_good n width table e =
    let s = or_neither (bad_length n width table) (not (build_rule n width table)) e in
    rule_ruled n width table (length_good n width table s.0) (not-false _ s.1)

pub table_passes : (n width : ℕ) (table : List ℕ) → n < pad → TableKept n width table → bad_table n width table ≡ false
unfolding bad_table
table_passes n width table low k =
    neither_or (bad_length n width table) (not (build_rule n width table)) (length-passes n width table k.size) (ap not (kept_rule n width table low k))

pub searched_good : (n degree : ℕ) (table : List ℕ) → bad_searched n degree table ≡ false → (length table ≡ n * degree) × (search_rule n table ≡ true)
unfolding bad_searched
searched_good n degree table e =
    let s = or_neither (bad_length n degree table) (not (search_rule n table)) e in
    (length_good n degree table s.0, not-false _ s.1)

pub searched-passes : (n degree : ℕ) (table : List ℕ) → length table ≡ n * degree → search_rule n table ≡ true → bad_searched n degree table ≡ false
unfolding bad_searched
searched-passes n degree table size rule =
    neither_or (bad_length n degree table) (not (search_rule n table)) (length-passes n degree table size) (ap not rule)

-- a table as cleaned keeps the search rule: check 8 is left with its length
pub cleaned-searched : (n degree : ℕ) (table : List ℕ) → bad_searched n degree (cleaned n table) ≡ bad_length n degree table
unfolding bad_searched bad_length
cleaned-searched n degree table = rw (cleaned_rule n table, length-cleaned n table) (or-false (bad_length n degree table))

pub searched_kept : (n degree : ℕ) (table : List ℕ) → TableKept n degree table → bad_searched n degree table ≡ false
searched_kept n degree table k = searched-passes n degree table k.size (kept_search_rule n degree table k)

-- ---- 9

-- distinct entries
pub record Listed (n : ℕ) (ids : List ℕ) : Type 0 where
  pub below : (u : ℕ) → Mem u ids → u < n
  pub once : Apart ids

each_below : (n : ℕ) (ids : List ℕ) → not (each (λ u. ltb u n) ids) ≡ false → (u : ℕ) → Mem u ids → u < n
each_below n ids e u m = ltb-true u n (each_mem (λ v. ltb v n) ids (not-false (each (λ v. ltb v n) ids) e) u m)

listed_good : (n : ℕ) (ids : List ℕ) → (not (each (λ u. ltb u n) ids) || not (distinct ids)) ≡ false → Listed n ids
listed_good n ids e =
    let t = or_neither (not (each (λ u. ltb u n) ids)) (not (distinct ids)) e in
    record { below = each_below n ids t.0; once = distinct_apart ids (not-false _ t.1) }

pub nodes_good : (n : ℕ) (nodes : List ℕ) → bad_nodes n nodes ≡ false → (length nodes ≤ 256) × Listed n nodes
unfolding bad_nodes
nodes_good n nodes e = let s = or_neither (ltb 256 (length nodes)) _ e in (ltb-false 256 (length nodes) s.0, listed_good n nodes s.1)

pub nodes_passes : (n : ℕ) (nodes : List ℕ) → length nodes ≤ 256 → ((u : ℕ) → Mem u nodes → u < n) → Apart nodes → bad_nodes n nodes ≡ false
unfolding bad_nodes
nodes_passes n nodes few below once =
    neither_or (ltb 256 (length nodes)) (not (each (λ u. ltb u n) nodes) || not (distinct nodes)) (le-ltb 256 (length nodes) few)
    (neither_or (not (each (λ u. ltb u n) nodes)) (not (distinct nodes)) (ap not (mem_each (λ u. ltb u n) nodes (λ u m. lt-ltb u n (below u m))))
    (ap not (apart_distinct once)))

pub order_good : (n : ℕ) (order : List ℕ) → bad_order n order ≡ false → (length order ≡ n) × Listed n order
unfolding bad_order
order_good n order e = let s = or_neither (not (eqb (length order) n)) _ e in (eqb-true (length order) n (not-false _ s.0), listed_good n order s.1)

-- ---- 10, for a batch, close or whole build

pub room_good : (n : ℕ) (words : List ℕ) (floats : List Float) → (short (build_words n) words || short (build_floats n) floats) ≡ false
    → (6 * n + 32768 ≤ length words) × (4 * n + 1024 ≤ length floats)
unfolding short build_words build_floats
room_good n words floats e = let s = or_neither (ltb (length words) (6 * n + 32768)) _ e in (ltb-false _ _ s.0, ltb-false _ _ s.1)

pub room-passes : (n : ℕ) (words : List ℕ) (floats : List Float) → build_words n ≤ length words → build_floats n ≤ length floats
    → (short (build_words n) words || short (build_floats n) floats) ≡ false
unfolding short
room-passes n words floats w f =
    neither_or (ltb (length words) (build_words n)) (ltb (length floats) (build_floats n)) (le-ltb (length words) (build_words n) w)
    (le-ltb (length floats) (build_floats n) f)

-- ---- 12

pub record Pivots (n : ℕ) (pivots : List ℕ) : Type 0 where
  pub some : 1 ≤ length pivots
  pub few : length pivots ≤ 8
  pub below : (p : ℕ) → Mem p pivots → p < n

pub pivots_good : (n : ℕ) (pivots : List ℕ) → bad_pivots n pivots ≡ false → Pivots n pivots
unfolding bad_pivots
pivots_good n pivots e =
    let s = or_neither (eqb (length pivots) 0) _ e in
    let t = or_neither (ltb 8 (length pivots)) _ s.1 in
    let z = eqb-false (length pivots) 0 s.0 in
    record { some = omega arith; few = ltb-false 8 (length pivots) t.0; below = each_below n pivots t.1 }
