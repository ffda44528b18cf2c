-- A report, from the tally of its queries and its room left zero; and the public statement from its number.
use Rattle.std.proofs.Common.{ℕ, ◌*◌, arith, ◌≡◌, refl, sym, ap, ◌∙◌, List, [], length}
use Rattle.definition.specs.declared.Report.{Report}
use Rattle.definition.specs.Lists.{cleared}
use Rattle.definition.specs.Floats.{nought}
use Rattle.definition.specs.Refusals.{ReportCall, report_number, report_words, report_floats}
use Rattle.definition.specs.Outcome.{ReportOut, reported, query_count, asked_each, hits_at, all_hits, report_kept, report_done, report_out, ReportMeets}
use Rattle.laws.specs.Parts.{drop_more}
use Rattle.laws.specs.Filled.{cleared_same}
use Rattle.accepted.specs.Outcomes.{by_refusal, by_success}
use Rattle.accepted.specs.Recall.{ReportAccepted, report_accepted}
use Rattle.scratch.specs.Lent.{Lent}
use Rattle.scratch.specs.Layout.{visited_at, report_end, report_floats_end, report_words_end, report_floats_end_lem}
use Rattle.scratch.specs.Clear.{FrontClear}
use Rattle.checks_recall.specs.ReportNumber.{ReportNumbered}
use Rattle.recall.specs.declared.Tally.{Tally}
use Rattle.recall.specs.Asking.{lending, out_of, Tallied}

-- ---- what is left: c is the report, `mid` what the queries leave of its words, of which w were cleared, and the floats with them
module _ (c : ReportCall) {count each : ℕ} (count_is : count ≡ query_count c) (each-is : each ≡ asked_each c) {mid : List ℕ} {t : Tally}
    (tallied : Tallied (lending c c.queries c.words []) count mid t) {after : Lent} {w : ℕ} (w-is : w ≡ report_end c.n)
    (front : FrontClear w report_floats_end mid c.floats after.words after.floats) where
  words_are : after.words ≡ cleared 0 (report_words c.n) c.words
  words_are =
      front.words_are ∙ ap (λ (m : ℕ). cleared 0 m mid) w-is
      ∙ cleared_same 0 (report_end c.n) mid c.words (drop_more (visited_at c.n) (report_end c.n) _ _ (omega arith) tallied.kept.above)
      ∙ ap (λ (m : ℕ). cleared 0 m c.words) (report_words_end c.n)

  floats_are : after.floats ≡ cleared nought report_floats c.floats
  floats_are = front.floats_are ∙ ap (λ (m : ℕ). cleared nought m c.floats) report_floats_end_lem

  pub done_is : {r : Report} → r ≡ reported 0 count (count * each) t.found t.whole → out_of r after.words after.floats ≡ report_done c
  unfolding report_done all_hits hits_at asked_each
  done_is e = let w = words_are in let s = floats_are in let f = tallied.found_is in let h = tallied.whole_is in cc

-- ---- the public statement
meets : (c : ReportCall) (o : ReportOut) → o ≡ report_out c → ReportMeets c o
meets c o q =
    record {
      report_is = ap (λ (x : ReportOut). x.report) q;
      words_is = ap (λ (x : ReportOut). x.words) q;
      floats_is = ap (λ (x : ReportOut). x.floats) q;
    }

-- r is the number of the report c
abbrev Numbered : ReportCall → ℕ → Type 0
Numbered c r =
    ReportNumbered c.n c.dim c.vectors c.degree c.beam c.k c.start c.table
    (length c.queries) (length c.words) (length c.floats) r

module _ (c : ReportCall) (r : ℕ) (m : Numbered c r) where
  number_is : r ≡ report_number c
  number_is = m.is c.queries c.words c.floats refl refl refl

  pub accepted : r ≡ 0 → ReportAccepted c
  accepted z = report_accepted c (sym number_is ∙ z)

  pub refused : (r ≡ 0 → ⊥) → (a : Report) → a ≡ reported r 0 0 0 0 → ReportMeets c (out_of a c.words c.floats)
  unfolding report_out report_kept
  refused h a e =
      meets c _
      (ap (λ (x : Report). out_of x c.words c.floats) (e ∙ ap (λ (k : ℕ). reported k 0 0 0 0) number_is)
      ∙ sym (by_refusal (report_kept c) (report_done c) (report_number c) (λ z. h (number_is ∙ z))))

  pub done : r ≡ 0 → (o : ReportOut) → o ≡ report_done c → ReportMeets c o
  unfolding report_out
  done z o e = meets c o (e ∙ sym (by_success (report_kept c) (report_done c) (report_number c) (sym number_is ∙ z)))
