-- The report of recall (1/13), over what every call of it leaves, refused or not: what its counts say of each other. Where every entry can be reached from
-- the start and the beam has room for all, it counts all. And that it is its public calls (proofs/Reporting): what it counts of a query is what a search and
-- an exhaustive search of that query have in common.
use Prim.Native.Nat.{ℕ, zero, suc, ◌*◌, ◌≤◌, ◌<◌, min, max, zero-le}
use Rattle.std.proofs.Common.{zero-mul, arith, ap, ◌∙◌}
use Rattle.std.specs.Prelude.{◌≡◌, refl, length}
use Rattle.std.proofs.Math.Path.{sym, subst}
use mathlib.Core.List.Memᴰ.{of_map}
use mathlib.Core.List.{Memᴰ as Mem}
use Rattle.std.proofs.Math.ListN.{length-map}
use Rattle.definition.specs.declared.Report.{Report}
use Rattle.definition.specs.Lists.{upto}
use Rattle.definition.specs.Tables.{row}
use Rattle.definition.specs.Metric.{from_query, vector}
use Rattle.definition.specs.Search.{ranked, searched, answers}
use Rattle.definition.specs.Recall.{hits}
use Rattle.definition.specs.Refusals.{ReportCall, report_number}
use Rattle.definition.specs.Outcome.{by_number}
use Rattle.definition.specs.Outcome.{reported, query_count, asked_each, hits_at, all_hits, ReportOut, ReportMeets, report_out, report_kept, report_done}
use Rattle.laws.specs.Members.{length-upto}
use Rattle.laws.specs.Tables.{row-mem}
use Rattle.theory.specs.Rule.{search_rule-mem}
use Rattle.theory.specs.search.Tells.{Reachable}
use Rattle.theory.specs.search.Ground.{Ground}
use Rattle.theory.specs.recall.Brought.{brought_answered, brought_nearest, all_brought}
use Rattle.theory.specs.recall.Counted.{total_most, count_most, count_least, count-all, all-count, total-all}
use Rattle.accepted.specs.Outcomes.{by_success, said_zero}
use Rattle.accepted.specs.Recall.{ReportAccepted, report_accepted}
use Rattle.promises.specs.Outcomes.{report_is}

-- `found` is at most `asked`, and at most what the searches can answer; each query that is `whole` has all of its own in `found`; and all queries are whole
-- exactly when all that was asked for was found
pub record ReportTells (c : ReportCall) (r : Report) : Type 0 where
  pub found_asked : r.found ≤ r.asked
  pub found_beam : r.found ≤ r.queries * min c.k (max c.beam 1)
  pub whole_queries : r.whole ≤ r.queries
  pub whole_found : r.whole * min c.k c.n ≤ r.found
  pub all_found : r.whole ≡ r.queries → r.found ≡ r.asked
  pub all_whole : r.found ≡ r.asked → r.whole ≡ r.queries

module _ (c : ReportCall) (a : ReportAccepted c) where
  -- what the search of query q goes by
  abbrev ground : ℕ → Ground
  ground q =
      record {
        d = from_query c.dim c.vectors (vector c.dim c.queries q);
        rows = row c.degree c.table;
        n = c.n;
        beam = max c.beam 1;
        start = c.start;
        starts = a.start_in;
        good = λ i w below m. search_rule-mem c.n c.table a.ruled w (row-mem c.degree c.table i m);
      }

  hits_nearest : (q : ℕ) → hits_at c q ≤ min c.k c.n
  unfolding hits_at hits answers ranked searched
  hits_nearest q = brought_nearest (ground q) c.k

  hits_answered : (q : ℕ) → hits_at c q ≤ min c.k (max c.beam 1)
  unfolding hits_at hits answers ranked searched
  hits_answered q = brought_answered (ground q) c.k

  -- of all queries
  each_hit : (P : ℕ → Type 0) → ((q : ℕ) → P (hits_at c q)) → (h : ℕ) → Mem h (all_hits c) → P h
  unfolding all_hits
  each_hit P f h m = let t = of_map (hits_at c) (upto (query_count c)) m in subst P t.2 (f t.0)

  hits_length : length (all_hits c) ≡ query_count c
  unfolding all_hits
  hits_length = length-map (upto (query_count c)) (hits_at c) ∙ length-upto (query_count c)

  abbrev most : ℕ
  most = min c.k c.n

  few : (h : ℕ) → Mem h (all_hits c) → h ≤ most
  few = each_hit (λ h. h ≤ most) hits_nearest

  -- so many queries, each asking for so many
  times : (m : ℕ) → length (all_hits c) * m ≡ query_count c * m
  times m = ap (λ (q : ℕ). q * m) hits_length

  -- where as many were found as are asked for, each query has all of its own
  done_whole : (report_done c).report.found ≡ (report_done c).report.asked → (report_done c).report.whole ≡ (report_done c).report.queries
  unfolding report_done reported asked_each
  done_whole e = all-count most (all_hits c) (e ∙ sym (times most)) few ∙ hits_length

  module _ (room : c.n ≤ c.beam) (all : (i : ℕ) → i < c.n → Reachable (row c.degree c.table) c.start i) where
    hits_all : (q : ℕ) → hits_at c q ≡ min c.k c.n
    unfolding hits_at hits answers ranked searched
    hits_all q = all_brought (ground q) c.k (omega arith) all

    done_all : (report_done c).report.found ≡ (report_done c).report.asked
    unfolding report_done reported asked_each
    done_all = total-all most (all_hits c) (each_hit (λ h. h ≡ most) hits_all) ∙ times most

-- by whether it was refused
pub report_tells : (c : ReportCall) (o : ReportOut) → ReportMeets c o → ReportTells c o.report
unfolding report_out report_kept report_done reported asked_each by_number
report_tells c o m = subst (λ (p : ReportOut). ReportTells c p.report) (sym (report_is m)) (go (report_number c) refl)
  where
    -- a refusal counts nothing
    none_tells : (number : ℕ) → ReportTells c (reported number 0 0 0 0)
    none_tells number =
        record {
          found_asked = zero-le;
          found_beam = zero-le;
          whole_queries = zero-le;
          whole_found = omega (arith, zero-mul (min c.k c.n));
          all_found = λ e. refl;
          all_whole = λ e. refl;
        }

    done_tells : ReportAccepted c → ReportTells c (report_done c).report
    done_tells a =
        record {
          found_asked = omega (arith, total_most (most c a) (all_hits c) (few c a), times c a (most c a));
          found_beam = let m = min c.k (max c.beam 1) in
              omega (arith, total_most m (all_hits c) (each_hit c a (λ h. h ≤ m) (hits_answered c a)), times c a m);
          whole_queries = omega (arith, count_most (most c a) (all_hits c), hits_length c a);
          whole_found = count_least (most c a) (all_hits c);
          all_found = λ e. count-all (most c a) (all_hits c) (e ∙ sym (hits_length c a)) (few c a) ∙ times c a (most c a);
          all_whole = done_whole c a;
        }

    go : (k : ℕ) → report_number c ≡ k → ReportTells c (by_number k (report_kept c) (report_done c)).report
    go zero e = done_tells (report_accepted c e)
    go (suc k) e = none_tells (report_number c)

-- a report that was not refused
passes : (c : ReportCall) (o : ReportOut) → ReportMeets c o → o.report.number ≡ 0 → (report_number c ≡ 0) × (o ≡ report_done c)
unfolding report_out report_kept reported
passes c o m e =
    let is = report_is m in
    let z = said_zero (report_kept c) (report_done c) (λ (p : ReportOut). p.report.number) (report_number c) refl
    (ap (λ (p : ReportOut). p.report.number) (sym is) ∙ e) in
    (z, is ∙ by_success (report_kept c) (report_done c) (report_number c) z)

-- all bytes are queries, and min(k, n) entries are asked for by each
pub report_counts : (c : ReportCall) (o : ReportOut) → ReportMeets c o → o.report.number ≡ 0
    → (o.report.queries * c.dim ≡ length c.queries) × (o.report.asked ≡ o.report.queries * min c.k c.n)
unfolding report_done reported asked_each
report_counts c o m e =
    let p = passes c o m e in
    subst (λ (q : ReportOut). (q.report.queries * c.dim ≡ length c.queries) × (q.report.asked ≡ q.report.queries * min c.k c.n))
    (sym p.1) (sym (report_accepted c p.0).queries_are, refl)

-- if every entry is reachable from the start and the beam is at least n, all that was asked for was found
pub report_all : (c : ReportCall) (o : ReportOut) → ReportMeets c o → o.report.number ≡ 0 → c.n ≤ c.beam
    → ((i : ℕ) → i < c.n → Reachable (row c.degree c.table) c.start i)
    → (o.report.found ≡ o.report.asked) × (o.report.whole ≡ o.report.queries)
report_all c o m e room all =
    let p = passes c o m e in
    let found = done_all c (report_accepted c p.0) room all in
    subst (λ (q : ReportOut). (q.report.found ≡ q.report.asked) × (q.report.whole ≡ q.report.queries)) (sym p.1)
    (found, done_whole c (report_accepted c p.0) found)
