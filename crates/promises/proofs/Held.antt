-- Demand 3, second sentence, over what a caller holds after a search that was not refused: `Held`, and with a run of records `RecordsHeld`.
use Rattle.std.specs.Prelude.{ℕ, ◌-◌, ◌<◌, max, min, ◌≡◌, refl, ltb, Float, take}
use Rattle.std.proofs.Common.{arith, ◌∙◌, subst, get_or-take}
use Rattle.std.proofs.Math.Path.{sym, ap}
use mathlib.Core.List.{List, map, map-map}
use borrow.Author.Tests.{ltb-true, ltb-false}
use Rattle.std.proofs.Math.ListN.{length, get_or, length-map, get_or-map}
use Rattle.definition.specs.declared.Candidate.{Candidate}
use Rattle.definition.specs.Lists.{over}
use Rattle.definition.specs.Metric.{whole}
use Rattle.definition.specs.Floats.{nought}
use Rattle.definition.specs.Beam.{Item, nobody}
use Rattle.definition.specs.Refusals.{SearchCall, search_number, records_number}
use Rattle.definition.specs.Outcome.{answer, search_answer, refused, found, found_ids, found_dists, found_records}
use Rattle.definition.specs.Outcome.{SearchOut, SearchMeets, search_out, search_kept, search_done}
use Rattle.definition.specs.Outcome.{RecordsOut, RecordsMeets, records_out, records_kept, records_done}
use Rattle.whole.specs.Whole.{nought-whole}
use Rattle.laws.specs.Truth.{decide}
use Rattle.laws.specs.Members.{mem_length, mem-at}
use Rattle.laws.specs.Backwards.{map-take}
use Rattle.laws.specs.Writing.{over_front}
use Rattle.laws.specs.Places.{places_ordered}
use Rattle.laws.specs.Items.{listed_is}
use Rattle.theory.specs.search.Tells.{from_start, SearchTells, Excludes}
use Rattle.accepted.specs.Outcomes.{by_success, said_zero}
use Rattle.accepted.specs.Search.{SearchAccepted, search_accepted, records_accepted, search_answers}
use Rattle.promises.specs.Outcomes.{search_is, records_is}
use Rattle.promises.specs.Searching.{rows_of, distance_to, last_distance, told, search_excludes, search_order}
use Rattle.promises.specs.Held.{FirstOf, Held, RecordsHeld}

module _ (c : SearchCall) (a : SearchAccepted c) (ids : List ℕ) (dists : List Float) (count : ℕ) (size : count ≡ length (found c))
    (ids_are : take count ids ≡ found_ids c) (dists_are : take count dists ≡ found_dists c) where
  id_at_lem : (i : ℕ) → i < count → get_or ids i 0 ≡ (get_or (found c) i nobody).id
  unfolding found_ids
  id_at_lem i h = sym (get_or-take count ids i 0 h) ∙ ap (λ (l : List ℕ). get_or l i 0) ids_are ∙ get_or-map (λ (x : Item). x.id) (found c) i nobody

  dist_at : (i : ℕ) → i < count → get_or dists i nought ≡ whole (get_or (found c) i nobody).dist
  unfolding found_dists
  dist_at i h =
      sym (get_or-take count dists i nought h) ∙ ap (λ (l : List Float). get_or l i nought) dists_are
      ∙ ap (λ (z : Float). get_or (map (λ (x : Item). whole x.dist) (found c)) i z) nought-whole
      ∙ get_or-map (λ (x : Item). whole x.dist) (found c) i nobody

  own_at : (i : ℕ) → i < count → ((get_or (found c) i nobody).dist ≡ distance_to c (get_or ids i 0)) × (get_or ids i 0 < c.n)
  own_at i h =
      let x = get_or (found c) i nobody in
      let e = id_at_lem i h in
      let t = search_answers c a x (mem-at nobody (found c) i (omega arith)) in
      (t.0 ∙ ap (distance_to c) (sym e), subst (λ (u : ℕ). u < c.n) (sym e) t.1)

  ordered : (i j : ℕ) → i < j → j < count → FirstOf c (get_or ids i 0) (get_or ids j 0)
  ordered i j h l =
      let x = get_or (found c) i nobody in
      let y = get_or (found c) j nobody in
      let p : i < count = omega arith in
      rw ((own_at i p).0, (own_at j l).0, ← id_at_lem i p, ← id_at_lem j l) at (listed_is x y (places_ordered nobody (search_order c a) i j h (omega arith)))

  at_end : last_distance c ≡ (get_or (found c) (count - 1) nobody).dist
  at_end = ap (λ (m : ℕ). (get_or (found c) (m - 1) nobody).dist) (sym size)

  -- where more are asked for than there are, the start is among them
  some : 0 < c.k → 0 < count
  unfolding found_ids
  some asked =
      let l = length-map (found c) (λ (x : Item). x.id) in
      decide (ltb 0 count) (λ t. ltb-true 0 count t)
      (λ t. let none = ltb-false 0 count t in
      absurd (omega (arith, mem_length ((told c a).all_if_fewer (omega arith) c.start from_start))))

  all : length (take count ids) ≡ length (found c)
  unfolding found_ids
  all = ap length ids_are ∙ length-map (found c) (λ (x : Item). x.id)

  held : Held c count ids dists
  held =
      record {
        ids_are = ids_are;
        dists_are = dists_are;
        size = all ∙ sym size;
        some = some;
        below = λ i h. (own_at i h).1;
        own = λ i h. dist_at i h ∙ ap whole (own_at i h).0;
        ordered = ordered;
        last = λ h. at_end ∙ (own_at (count - 1) (omega arith)).0;
        last_beside = λ h. dist_at (count - 1) (omega arith) ∙ ap whole (sym at_end);
        tells = subst (λ (l : List ℕ). SearchTells (rows_of c) (distance_to c) c.start (min c.k (max c.beam 1)) l (last_distance c)) (sym ids_are)
            (told c a);
        excludes = subst (λ (l : List ℕ). Excludes (rows_of c) (distance_to c) c.start l (last_distance c)) (sym ids_are) (search_excludes c a);
      }

-- ---- a search

-- what a search leaves that is done: beyond the answers lies what was lent
done_held : (c : SearchCall) → SearchAccepted c → Held c (search_done c).answer.count (search_done c).ids (search_done c).dists
unfolding search_done search_answer found_ids found_dists
done_held c a =
    held c a (over (found_ids c) c.ids) (over (found_dists c) c.dists) (length (found c)) refl
    (over_front (found_ids c) c.ids (length (found c)) (length-map (found c) (λ (x : Item). x.id)))
    (over_front (found_dists c) c.dists (length (found c)) (length-map (found c) (λ (x : Item). whole x.dist)))

pub search_held : (c : SearchCall) (o : SearchOut) → SearchMeets c o → o.answer.number ≡ 0 → Held c o.answer.count o.ids o.dists
unfolding search_out search_kept refused answer
search_held c o m accepted =
    let is = search_is m in
    let passed = said_zero (search_kept c) (search_done c) (λ (p : SearchOut). p.answer.number) (search_number c) refl
    (ap (λ (p : SearchOut). p.answer.number) (sym is) ∙ accepted) in
    subst (λ (p : SearchOut). Held c p.answer.count p.ids p.dists) (sym (is ∙ by_success (search_kept c) (search_done c) (search_number c) passed))
    (done_held c (search_accepted c passed))

-- ---- with a run of records beside the two outputs

done-run : (c : SearchCall) (rs : List Candidate) → SearchAccepted c → RecordsHeld c (records_done c rs)
unfolding records_done search_done search_answer found_records found_ids found_dists
done-run c rs a =
    record {
      outputs = done_held c a;
      records_are = front;
      run = held c a (map (λ r. r.id) run) (map (λ r. r.distance) run) (length (found c)) refl (field (λ r. r.id)) (field (λ r. r.distance));
    }
  where
    recorded : Item → Candidate
    recorded x = record { id = x.id; distance = whole x.dist }

    run : List Candidate
    run = over (map recorded (found c)) rs

    front : take (length (found c)) run ≡ map recorded (found c)
    front = over_front (map recorded (found c)) rs (length (found c)) (length-map (found c) recorded)

    field : {A : Type 0} (f : Candidate → A) → take (length (found c)) (map f run) ≡ map (λ x. f (recorded x)) (found c)
    field f = sym (map-take f (length (found c)) run) ∙ ap (map f) front ∙ map-map f recorded (found c)

pub records_held : (c : SearchCall) (rs : List Candidate) (o : RecordsOut) → RecordsMeets c rs o → o.plain.answer.number ≡ 0 → RecordsHeld c o
unfolding records_out records_kept refused answer
records_held c rs o m accepted =
    let is = records_is m in
    let passed = said_zero (records_kept c rs) (records_done c rs) (λ (p : RecordsOut). p.plain.answer.number) (records_number c rs) refl
    (ap (λ (p : RecordsOut). p.plain.answer.number) (sym is) ∙ accepted) in
    subst (λ (p : RecordsOut). RecordsHeld c p) (sym (is ∙ by_success (records_kept c rs) (records_done c rs) (records_number c rs) passed))
    (done-run c rs (records_accepted c rs passed).0)
