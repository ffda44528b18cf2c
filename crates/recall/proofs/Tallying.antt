-- The loop over the queries: query q is the next part of the bytes, and one query more is one number more, added and counted. No mark is above the epoch,
-- which is two further with each query.
use Rattle.std.proofs.Common.{ℕ, ◌+◌, ◌-◌, ◌*◌, ◌≤◌, ◌<◌, arith, ◌≡◌, refl, sym, ap, ap₂, ◌∙◌, List, [], ◌++◌, map, Float}
use Rattle.std.proofs.Common.{eqb, eqb-true, ltb, length, take, drop, length-append, length-drop, drop-drop, mul-le-mul_right}
use Rattle.std.proofs.Math.Seq.{take-append_seam, drop-append_seam}
use borrow.Author.Tests.{ltb-true, ltb-false}
use Rattle.std.proofs.lemmas.Bool.{eqb-false}
use Rattle.std.specs.Int.{from_bool}
use Rattle.definition.specs.Lists.{upto, run, total, keep}
use Rattle.definition.specs.Metric.{vector, from_query}
use Rattle.definition.specs.Tables.{row}
use Rattle.definition.specs.Recall.{hits, count_of}
use Rattle.definition.specs.Refusals.{ReportCall}
use Rattle.definition.specs.Outcome.{query_count, asked_each, hits_at}
use Rattle.laws.specs.Truth.{decide}
use Rattle.laws.specs.Parts.{within_trans, within_none}
use Rattle.laws.specs.Tables.{row_fits}
use Rattle.laws.specs.Sums.{total-upto}
use Rattle.theory.specs.recall.Counted.{count_same, count_other}
use Rattle.accepted.specs.Recall.{report_searches, report_exhausts}
use Rattle.scratch.specs.Layout.{visited_at}
use Rattle.marks.specs.Marked.{Marks, FirstEpoch}
use Rattle.marks.specs.Visits.{first_then}
use Rattle.recall.specs.declared.Brought.{Brought}
use Rattle.recall.specs.Asking.{lending, QueryAccepted, QueriesAccepted, Recalled, Tallied}

-- ---- along the loop: what was counted is small, and the outputs are long enough for every query
pub record Going (c : ReportCall) (q epoch found whole : ℕ) (words : List ℕ) : Type 0 where
  pub most : q ≤ query_count c
  pub epoch_is : epoch ≡ 1 + 2 * q
  pub found_few : found ≤ 256 * q
  pub whole_few : whole ≤ q
  pub tallied : Tallied c q words (record { found = found; whole = whole })
  pub marks : Marks c.n words epoch

pub record Outputs (ids : List ℕ) (dists : List Float) (near : List ℕ) (apart : List Float) : Type 0 where
  pub ids_long : length ids ≡ 256
  pub dists_long : length dists ≡ 256
  pub near_long : length near ≡ 256
  pub apart_long : length apart ≡ 256

pub go_start : (c : ReportCall) {before : List ℕ} {epoch : ℕ} → FirstEpoch c.n before c.words epoch → Going c 0 epoch 0 0 c.words
unfolding total count_of keep upto run
go_start c first =
    record {
      most = omega arith;
      epoch_is = omega (arith, first.is);
      found_few = omega arith;
      whole_few = omega arith;
      tallied = record { found_is = refl; whole_is = refl; kept = within_none 0 (visited_at c.n) c.words };
      marks = first.marks;
    }

-- ---- the queries come one after another, each of so many bytes: `rest` is what is left before query q
pub record Coming (dim : ℕ) (queries : List ℕ) (q : ℕ) (rest : List ℕ) (size : ℕ) : Type 0 where
  pub size_is : size ≡ dim
  pub rest_is : rest ≡ drop (q * dim) queries

pub coming_start : {dim : ℕ} {queries rest : List ℕ} {size : ℕ} → rest ≡ queries → size ≡ dim → Coming dim queries 0 rest size
coming_start {dim} {queries} r s =
    let z : 0 ≡ 0 * dim = omega arith in record { size_is = s; rest_is = r ∙ ap (λ (m : ℕ). drop m queries) z }

-- query q
pub record Query (c : ReportCall) (q : ℕ) (query : List ℕ) : Type 0 where
  pub more : q < query_count c
  pub long : length query ≡ c.dim
  pub is : query ≡ vector c.dim c.queries q

module _ {c : ReportCall} (accepted : QueriesAccepted c) {q : ℕ} {rest : List ℕ} {size : ℕ} (coming : Coming c.dim c.queries q rest size) where
  rest_long : length rest ≡ query_count c * c.dim - q * c.dim
  unfolding query_count
  rest_long = ap length coming.rest_is ∙ length-drop (q * c.dim) c.queries ∙ ap (λ (m : ℕ). m - q * c.dim) accepted.report.queries_are

  -- none is left
  pub no_more : length rest < size → query_count c ≤ q
  no_more h =
      decide (ltb q (query_count c))
      (λ e. absurd (omega (arith, rest_long, coming.size_is, row_fits q (query_count c) c.dim (ltb-true q (query_count c) e))))
      (λ e. ltb-false q (query_count c) e)

  -- the next one, and those after it
  module _ (query later : List ℕ) (are : rest ≡ query ++ later) (long : length query ≡ size) where
    query_long : length query ≡ c.dim
    query_long = long ∙ coming.size_is

    pub query_next : Query c q query
    unfolding vector
    query_next =
        let n : length rest ≡ length query + length later = ap length are ∙ length-append query later in
        record {
          more = decide (ltb q (query_count c)) (λ e. ltb-true q (query_count c) e)
              (λ e. absurd (omega (
                arith,
                n,
                query_long,
                accepted.report.entries.dim_some,
                rest_long,
                mul-le-mul_right c.dim (ltb-false q (query_count c) e),
              )));
          long = query_long;
          is = sym (take-append_seam query later) ∙ ap₂ (λ (m : ℕ) (l : List ℕ). take m l) query_long (sym are ∙ coming.rest_is);
        }

    pub coming_more : {size' : ℕ} → size' ≡ size → Coming c.dim c.queries (q + 1) later size'
    coming_more e =
        record {
          size_is = e ∙ coming.size_is;
          rest_is = sym (drop-append_seam query later) ∙ ap₂ (λ (m : ℕ) (l : List ℕ). drop m l) query_long (sym are ∙ coming.rest_is)
              ∙ drop-drop c.dim (q * c.dim) c.queries ∙ ap (λ (m : ℕ). drop m c.queries) (omega arith);
        }

-- ---- query q
module _ {c : ReportCall} (accepted : QueriesAccepted c) {q : ℕ} {query : List ℕ} (here : Query c q query) where
  -- the marks were cleared, and the first q asked
  module _ {begun : List ℕ} {one : ℕ} (first : FirstEpoch c.n c.words begun one) {epoch found whole : ℕ} {words : List ℕ}
      (g : Going (lending c c.queries begun []) q epoch found whole words) where
    abbrev asked : ReportCall
    asked = lending c query words []

    pub query_room : {ids near : List ℕ} {dists apart : List Float} → Outputs ids dists near apart → QueryAccepted asked ids dists near apart
    query_room o =
        let report = accepted.report in
        record {
          floats = accepted.floats;
          search = report_searches _ report query here.long words accepted.floats _ _
              (omega (arith, g.tallied.kept.size, first.kept.size, report.word_room)) (omega (arith, report.float_room))
              (omega (arith, o.ids_long)) (omega (arith, o.dists_long));
          nearest = report_exhausts _ report query here.long _ _ (omega (arith, o.near_long)) (omega (arith, o.apart_long));
        }

    -- what it brought is added
    module _ {after : List ℕ} {r : Brought} (brought : Recalled asked epoch after r) {each : ℕ} (each-is : each ≡ asked_each c) where
      hits_are : r.hits ≡ hits_at c q
      unfolding hits_at
      hits_are =
          brought.hits_are
          ∙ ap (λ (l : List ℕ). hits (from_query c.dim c.vectors l) (row c.degree c.table) c.n c.beam c.start c.k) here.is

      -- b is 1 where the query was whole, and else 0
      pub go_on : {b : ℕ} → b ≡ from_bool (eqb r.hits each) → Going (lending c c.queries begun []) (q + 1) r.epoch (found + r.hits) (whole + b) after
      unfolding hits_at asked_each query_count
      go_on {b} one =
          record {
            most = omega (arith, here.more);
            epoch_is = omega (arith, brought.epoch_is, g.epoch_is);
            found_few = omega (arith, g.found_few, brought.few);
            whole_few = counted.0;
            tallied = record {
              found_is = omega (arith, g.tallied.found_is, hits_are, total-upto (hits_at c) q);
              whole_is = counted.1;
              kept = within_trans 0 (visited_at c.n) begun words after g.tallied.kept brought.kept;
            };
            marks = brought.marks;
          }
        where
          counted : (whole + b ≤ q + 1) × (whole + b ≡ count_of (asked_each c) (map (hits_at c) (upto (q + 1))))
          counted =
              decide (eqb r.hits each)
              (λ e.
              let v : b ≡ 1 = one ∙ ap from_bool e in
              let same = count_same (asked_each c) (hits_at c) q (sym hits_are ∙ eqb-true r.hits each e ∙ each-is) in (
                omega (arith, g.whole_few),
                omega (arith, g.tallied.whole_is, same),
              ))
              (λ e.
              let v : b ≡ 0 = one ∙ ap from_bool e in
              let other = count_other (asked_each c) (hits_at c) q (λ h. eqb-false r.hits each e (hits_are ∙ h ∙ sym each-is)) in (
                omega (arith, g.whole_few),
                omega (arith, g.tallied.whole_is, other),
              ))

-- ---- all were asked
pub go_end : {c : ReportCall} {begun after : List ℕ} {one q epoch found whole : ℕ} → FirstEpoch c.n c.words begun one → query_count c ≤ q
    → Going (lending c c.queries begun []) q epoch found whole after → Tallied c (query_count c) after (record { found = found; whole = whole })
unfolding hits_at asked_each query_count
go_end {c} {q = q} first h g =
    let all : query_count c ≡ q = omega (arith, g.most) in
    let t = g.tallied in
    rw all (record { found_is = t.found_is; whole_is = t.whole_is; kept = first_then first (visited_at c.n) (omega arith) t.kept })
