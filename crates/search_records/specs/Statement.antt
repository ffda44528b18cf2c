-- The public statement, from the number of a search with the records beside it, what an accepted one leaves, and the copy of its answers.
use Rattle.std.specs.Prelude.{◌≡◌, ℕ, ◌≤◌, Float}
use Rattle.std.proofs.Math.Path.{sym, ap, subst}
use Rattle.std.proofs.Common.{ap₂, ◌∙◌, arith, take_all}
use mathlib.Core.List.{List, ◌++◌, map}
use Rattle.std.proofs.Math.ListN.{length, drop, length-map, length-append}
use Rattle.definition.specs.declared.Candidate.{Candidate}
use Rattle.definition.specs.Lists.{over}
use Rattle.definition.specs.Metric.{whole}
use Rattle.definition.specs.Beam.{Item, item}
use Rattle.definition.specs.declared.Answer.{Answer}
use Rattle.definition.specs.Refusals.{SearchCall, records_number}
use Rattle.definition.specs.Outcome.{search_answer, refused, found, found_ids, found_dists, found_records, search_done, SearchOut, RecordsOut, records_kept, records_done, records_out, RecordsMeets}
use Rattle.accepted.specs.Outcomes.{by_refusal, by_success}
use Rattle.checks_number.specs.SearchNumber.{NumberedBeside, with_records}
use Rattle.laws.specs.Mapped.{map_at}
use Rattle.search.specs.Reading.{front_at}
use Rattle.search.specs.Statement.{out_of, Searched, beside-accepted}
use Rattle.search_records.specs.Copied.{candidate, copied, copied_is}

-- ---- the copy of answers that stand in front of two lists
abbrev record_of : Item → Candidate
record_of a = candidate a.id (whole a.dist)

copied-found : (items : List Item) (ids : List ℕ) (dists : List Float) (rs : List Candidate) → length items ≤ length rs
    → copied (map (λ a. a.id) items ++ ids) (map (λ a. whole a.dist) items ++ dists) (length items) rs ≡ map record_of items ++ drop (length items) rs
copied-found items ids dists rs fits =
    copied_is _ _ rs (map record_of items) (length items) (omega (arith, length-map items record_of)) fits
    (λ i d h. ap₂ candidate (front_at (λ a. a.id) items ids i 0 (item 0 0) h) (front_at (λ a. whole a.dist) items dists i _ (item 0 0) h) ∙ sym (map_at record_of (item 0 0) d items i h))
    ∙ ap (λ (l : List Candidate). l ++ drop (length items) rs) (take_all (length items) (map record_of items) (omega (arith, length-map items record_of)))

-- ---- by the number
abbrev by_count : SearchOut → List Candidate → List Candidate
by_count o rs = copied o.ids o.dists o.answer.count rs

module _ (c : SearchCall) (rs : List Candidate) where
  meets : (o : RecordsOut) → o ≡ records_out c rs → RecordsMeets c rs o
  meets o q = record { plain_is = ap (λ (x : RecordsOut). x.plain) q; records_are = ap (λ (x : RecordsOut). x.records) q }

  run_done : length (found c) ≤ length rs → by_count (search_done c) rs ≡ (records_done c rs).records
  unfolding search_done records_done over found_ids found_dists found_records search_answer
  run_done fits = copied-found (found c) (drop (length (found_ids c)) c.ids) (drop (length (found_dists c)) c.dists) rs fits ∙ ap (λ (m : ℕ). found_records c ++ drop m rs) (sym (length-map (found c) record_of))

  -- the answers stand in both outputs
  in_outputs : (o : SearchOut) → o ≡ search_done c → (o.answer.count ≤ length o.ids) × (o.answer.count ≤ length o.dists)
  unfolding search_done search_answer over found_ids found_dists
  in_outputs o e = (
    subst (λ (x : SearchOut). x.answer.count ≤ length x.ids) (sym e) (omega (arith, length-append (found_ids c) (drop (length (found_ids c)) c.ids), length-map (found c) (λ a. a.id))),
    subst (λ (x : SearchOut). x.answer.count ≤ length x.dists) (sym e) (omega (arith, length-append (found_dists c) (drop (length (found_dists c)) c.dists), length-map (found c) (λ a. whole a.dist))),
  )

  module _ (r : ℕ) (m : NumberedBeside c (length rs) r) where
    number_is : r ≡ records_number c rs
    number_is = with_records c r rs m

    -- a refusal: everything is as it was
    pub records_refused : (r ≡ 0 → ⊥) → (a : Answer) → a ≡ refused r → RecordsMeets c rs (record { plain = out_of a c.words c.floats c.ids c.dists; records = rs })
    unfolding records_out records_kept
    records_refused h a e =
        meets _
        (ap (λ (x : Answer). record { plain = out_of x c.words c.floats c.ids c.dists; records = rs }) (e ∙ ap refused number_is)
        ∙ sym (by_refusal (records_kept c rs) (records_done c rs) (records_number c rs) (λ z. h (number_is ∙ z))))

    module _ (z : r ≡ 0) (o : SearchOut) (s : Searched c o) where
      -- the copy may be made
      pub in_all : (o.answer.count ≤ length rs) × ((o.answer.count ≤ length o.ids) × (o.answer.count ≤ length o.dists))
      in_all = (omega (arith, s.few, (beside-accepted c (length rs) r m z).1), in_outputs o s.is)

      -- and gives what is stated
      pub records_done_lem : (run : List Candidate) → run ≡ by_count o rs → RecordsMeets c rs (record { plain = o; records = run })
      unfolding records_out records_done search_done search_answer
      records_done_lem run e =
          let fits : length (found c) ≤ length rs = subst (λ (x : SearchOut). x.answer.count ≤ length rs) s.is in_all.0 in
          meets _
          (ap₂ (λ (x : SearchOut) (l : List Candidate). record { plain = x; records = l }) s.is (e ∙ ap (λ (x : SearchOut). by_count x rs) s.is ∙ run_done fits)
          ∙ sym (by_success (records_kept c rs) (records_done c rs) (records_number c rs) (sym number_is ∙ z)))
