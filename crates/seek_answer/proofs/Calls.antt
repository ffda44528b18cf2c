-- From what `search` leaves to what is printed: the call that is made is the definition's, so that its number and its answers are.
use mathlib.Core.Path.{◌≡◌, refl, sym, ap, ◌∙◌, subst}
use mathlib.Core.List.{List}
use Prim.Native.Nat.{ℕ, zero, suc, ◌-◌, ◌*◌, ◌≤◌}
use native.Mathlib.Omega.{arith}
use lib.Ieee.{Float}
use lib.ListN.{length, take, get_or, length-append, length-drop, length-map}
use Rattle.definition.specs.Lists.{over}
use Rattle.definition.specs.Beam.{Item}
use Rattle.definition.specs.Refusals.{SearchCall, search_number}
use Rattle.definition.specs.Outcome.{SearchOut, SearchMeets, found, by_number}
use Rattle.definition.specs.Seek.{the_n, the_dim, the_degree, the_vectors, the_rows, the_query, part_at, seek_call, print_refused, print_found}
use Rattle.laws.specs.Parts.{part}
use Rattle.search.specs.Reading.{number_is, count_is, ids_are, dists_are}
use Rattle.seek_text.specs.Text.{PlacesOf, Ready}
use Rattle.seek_print.specs.Printed.{Wholes, found_text}
use Rattle.seek_answer.specs.Answering.{Room, answer_of}
use Rattle.seek_answer.proofs.Lines.{wholes, found_is}
use Rattle.seek_answer.proofs.Lent.{lent_call, number_same, found-same}
use Rattle.seek_answer.proofs.Small.{small-found}

over-few : {A : Type 0} (new old l : List A) → l ≡ over new old → length l ≡ length old → length new ≤ length old
unfolding over
over-few new old l e h = omega (arith, h, simp (length-append, length-drop) at (ap length e))

answered : (vs : List ℕ) (k : ℕ) → search_number (seek_call vs) ≡ k → (k ≡ 0 → ⊥) → print_refused k ≡ answer_of vs
unfolding answer_of by_number
answered vs zero e h = absurd (h refl)
answered vs (suc k) e h = rw e refl

answered-found : (vs : List ℕ) → search_number (seek_call vs) ≡ 0 → print_found (found (seek_call vs)) ≡ answer_of vs
unfolding answer_of by_number
answered-found vs e = rw e refl

-- what the search left tells what is to be printed
pub record Told (vs ids : List ℕ) (o : SearchOut) : Type 0 where
  pub refused : (o.answer.number ≡ 0 → ⊥) → print_refused o.answer.number ≡ answer_of vs
  pub few : o.answer.number ≡ 0 → length o.ids ≡ length ids → o.answer.count ≤ length ids
  pub whole : o.answer.number ≡ 0 → Wholes o.dists o.answer.count
  pub text : o.answer.number ≡ 0 → found_text o.ids o.dists o.answer.count ≡ answer_of vs

-- ---- of the call that the values ask for
module _ {vs vectors query words : List ℕ} {floats : List Float} {ids : List ℕ} {dists : List Float} {out : List ℕ}
    (ready : Ready vs vectors query) (room : Room vectors query words floats ids dists out) where
  abbrev call : SearchCall
  call = lent_call vs words floats ids dists

  tells : {o : SearchOut} → SearchMeets call o → Told vs ids o
  tells {o} m =
      record {
        refused = λ h. answered vs o.answer.number (sym number) h;
        few = λ z h.
            let e = over-few _ ids o.ids (ids_are call o m (none z)) h in
            omega (arith, count_is call o m (none z), length-map (found call) (λ (a : Item). a.id), e);
        whole = λ z.
            subst (λ (j : ℕ). Wholes o.dists j) (sym (count_is call o m (none z)))
            (wholes (found call) ids o.ids dists o.dists (ids_are call o m (none z)) (dists_are call o m (none z))
            (small-found vs words floats ids dists ready.well (none z)));
        text = λ z.
            ap (λ (j : ℕ). found_text o.ids o.dists j) (count_is call o m (none z))
            ∙ found_is (found call) ids o.ids dists o.dists (ids_are call o m (none z)) (dists_are call o m (none z))
            (small-found vs words floats ids dists ready.well (none z))
            ∙ ap print_found (found-same vs words floats ids dists) ∙ answered-found vs (sym number ∙ z);
      }
    where
      number : o.answer.number ≡ search_number (seek_call vs)
      number = number_is call o m ∙ number_same ready.limits room

      none : o.answer.number ≡ 0 → search_number call ≡ 0
      none z = sym (number_is call o m) ∙ z

  -- ---- and of the call that is made
  module _ {n dim degree beam k rows at end : ℕ} (p : n ≡ the_n vs) (q : dim ≡ the_dim vs) (r : degree ≡ the_degree vs) (s : beam ≡ get_or vs 4 0)
      (t : k ≡ get_or vs 5 0) (places : PlacesOf vs rows at end) where
    abbrev made : SearchCall
    made =
        record {
          n = n;
          dim = dim;
          vectors = take (rows - 6) vectors;
          degree = degree;
          beam = beam;
          k = k;
          start = get_or vs 3 0;
          table = part rows at vs;
          query = take dim query;
          words = words;
          floats = floats;
          ids = ids;
          dists = dists;
        }

    made_is : made ≡ call
    unfolding the_rows part_at
    made_is = rw (vectors_part, rows_part, query_part, p, q, r, s, t) refl
      where
        vectors_part : take (rows - 6) vectors ≡ the_vectors vs
        vectors_part = let a : rows - 6 ≡ the_n vs * the_dim vs = omega (arith, places.rows_at) in rw a ready.vectors_are

        rows_part : part rows at vs ≡ the_rows vs
        rows_part = let b : at - rows ≡ the_n vs * the_degree vs = omega (arith, places.query_at) in rw (b, places.rows_at) refl

        query_part : take dim query ≡ the_query vs
        query_part = rw q ready.query_are

    pub search_tells : {o : SearchOut} → SearchMeets made o → Told vs ids o
    search_tells {o} m = tells (subst (λ (z : SearchCall). SearchMeets z o) made_is m)
