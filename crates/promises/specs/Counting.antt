-- 10/13. "An entry that has left a full beam is never expanded, so the unexpanded part of the beam is enough", over the step definition and of every accepted
-- search. And the two counts of an answer, over what each search leaves, with a run of records or not, and each lookup, refused or not: "Each entry is expanded
-- at most once; distances are at most n, and at most 1 plus degree times expansions". They count what the step definition expanded and visited. No other public
-- call counts anything.
use Prim.Native.Nat.{ℕ, zero, suc, ◌+◌, ◌*◌, ◌≤◌, ◌<◌, max, zero-le}
use Rattle.std.proofs.Common.{arith, sym, ap, ◌∙◌, lit≤}
use Rattle.std.specs.Prelude.{◌≡◌, refl, ◌≢◌, false, length, replicate}
use Rattle.std.proofs.Math.Path.{subst}
use mathlib.Core.List.Memᴰ.{head as here}
use mathlib.Core.List.Memᴰ.{tail as there}
use mathlib.Core.List.{List, [], ◌∷◌, Nodup, Memᴰ as Mem}
use Rattle.definition.specs.declared.Answer.{Answer}
use Rattle.definition.specs.declared.Candidate.{Candidate}
use Rattle.definition.specs.Tables.{pad}
use Rattle.definition.specs.Floats.{nought}
use Rattle.definition.specs.Beam.{Item, item, best}
use Rattle.definition.specs.Greedy.{State, visited_ids, begin, step, stops, steps, greedy}
use Rattle.definition.specs.Search.{searched}
use Rattle.definition.specs.Refusals.{DistanceCall, BatchCall, OpenCall, CloseCall, BuildCall, MedoidCall, SearchCall, FitCall, ExhaustiveCall}
use Rattle.definition.specs.Refusals.{RowsCall, SeedsCall, DrawsCall, search_number, records_number}
use Rattle.definition.specs.Outcome.{answer, search_answer, refused, done, by_number, walked}
use Rattle.definition.specs.Outcome.{SearchOut, SearchMeets, search_out, search_kept, search_done, LookupMeets, lookup_out, cleaned_call}
use Rattle.definition.specs.Outcome.{RecordsOut, RecordsMeets, records_out, records_kept, records_done}
use Rattle.definition.specs.Outcome.{distance_out, medoid_out, fit_out, BatchOut, BatchMeets, batch_out, batch_kept, batch_done}
use Rattle.definition.specs.Outcome.{OpenOut, OpenMeets, open_out, open_kept, open_done, CloseOut, CloseMeets, close_out, close_kept, close_done}
use Rattle.definition.specs.Outcome.{BuildOut, BuildMeets, build_out, build_kept, build_done}
use Rattle.definition.specs.Outcome.{ExhaustiveOut, ExhaustiveMeets, exhaustive_out, exhaustive_kept, exhaustive_done, DrawOut, DrawMeets, draw_out}
use Rattle.definition.specs.Outcome.{FillOut, FillMeets, fill_kept, fill_done, rows_out, seeds_out, order_out, pivots_out}
use Rattle.definition.specs.checked.Opened.{opened}
use Rattle.laws.specs.Members.{is_in-none}
use Rattle.laws.specs.Apart.{apart_nodup}
use Rattle.laws.specs.Items.{ids_of, id_in}
use Rattle.laws.specs.Tables.{row-length}
use Rattle.theory.specs.search.Ground.{Ground}
use Rattle.theory.specs.search.Steps.{step_expands}
use Rattle.theory.specs.search.Along.{Kept}
use Rattle.theory.specs.search.Ends.{begun_keeps, steps_stay, steps_add, greedy-enough, greedy_keeps, visited_below}
use Rattle.theory.specs.search.Counted.{visited_most, expanded_within, visited_few, beam_one_begins}
use Rattle.theory.specs.search.Left.{left_unexpanded, BestUnexpanded, step_from_work}
use Rattle.accepted.specs.Search.{SearchAccepted, ground, search_accepted, records_accepted}
use Rattle.promises.specs.Searching.{rows_of, distance_to}

-- ---- what has left a full beam

-- the state after k steps from the beginning
abbrev pub after : Ground → ℕ → State
after g k = steps g.d g.rows g.beam k (begin g.d g.beam g.start)

after_more : (g : Ground) (k more : ℕ) → steps g.d g.rows g.beam more (after g k) ≡ after g (k + more)
after_more g k more = sym (steps_add g.d g.rows g.beam k more (begin g.d g.beam g.start))

-- what has been in work was visited, whether it is still in work or not
pub held_stays_visited : (g : Ground) (k more : ℕ) (x : Item) → Mem x (after g k).work → Mem x (after g (k + more)).visited
held_stays_visited g k more x m =
    let v = begun_keeps g k in
    subst (λ (s : State). Mem x s.visited) (after_more g k more) (steps_stay g more (after g k) v x (v.kept.holding.seen x m))

-- what was visited and is not in work, since it has left or never came in: if it is not expanded by then, no further step expands it. The beam is not 0:
-- with beam 0 the start is expanded although work never holds it
pub left_never_expanded : (g : Ground) → 0 < g.beam → (k : ℕ) (x : Item) → Mem x (after g k).visited → ¬ Mem x (after g k).work
    → ¬ Mem x.id (after g k).expanded
    → (more : ℕ) → ¬ Mem x.id (after g (k + more)).expanded
left_never_expanded g some k x m left new more =
    subst (λ (s : State). ¬ Mem x.id s.expanded) (after_more g k more) (left_unexpanded g some x (after g k) (begun_keeps g k) m left new more)

-- "so the unexpanded part of the beam is enough": if there is a next step, it expands the best of it
pub unexpanded_beam_enough : (g : Ground) → 0 < g.beam → (k : ℕ) → stops g.beam (after g k) ≡ false
    → (b : Item) × BestUnexpanded (after g k) b × ((after g (k + 1)).expanded ≡ b.id ∷ (after g k).expanded)
unfolding steps
unexpanded_beam_enough g some k on =
    let s = after g k in
    let one : step g.d g.rows g.beam s ≡ steps g.d g.rows g.beam 1 s = rw on refl in
    let next = ap (λ (t : State). t.expanded) (sym (one ∙ after_more g k 1)) in
    (best s.frontier, step_from_work g some s (begun_keeps g k) on, next ∙ step_expands g.d g.beam g.rows s)

-- of a call: k steps of its walk
abbrev pub walked_for : SearchCall → ℕ → State
walked_for c k = steps (distance_to c) (rows_of c) (max c.beam 1) k (begin (distance_to c) (max c.beam 1) c.start)

module _ (c : SearchCall) (a : SearchAccepted c) where
  abbrev g : Ground
  g = ground c a

  enough_walked : (more : ℕ) → c.n ≤ more → walked_for c more ≡ walked c
  unfolding walked searched
  enough_walked more h = greedy-enough (distance_to c) (rows_of c) c.n (max c.beam 1) c.start g.starts g.good more h

  -- after so many more steps that the walk has ended
  stays_unexpanded : (k : ℕ) (x : Item) → Mem x (walked_for c k).visited → ¬ Mem x (walked_for c k).work → ¬ Mem x.id (walked_for c k).expanded
      → (more : ℕ) → c.n ≤ k + more → ¬ Mem x.id (walked c).expanded
  stays_unexpanded k x m left new more enough =
      subst (λ (s : State). ¬ Mem x.id s.expanded) (after_more g k more ∙ enough_walked (k + more) enough)
      (left_unexpanded g (omega arith) x (after g k) (begun_keeps g k) m left new more)

  -- so of every accepted search, which raises its beam to at least 1; a lookup is the search of its call as cleaned
  pub search_left_never_expanded : (k : ℕ) (x : Item) → Mem x (walked_for c k).visited → ¬ Mem x (walked_for c k).work
      → ¬ Mem x.id (walked_for c k).expanded
      → ¬ Mem x.id (walked c).expanded
  search_left_never_expanded k x m left new = stays_unexpanded k x m left new c.n (omega arith)

  -- ---- each entry counts once

  walked_kept : Kept g (walked c)
  unfolding walked searched
  walked_kept = greedy_keeps g

  pub expanded_once : Nodup (walked c).expanded
  expanded_once = apart_nodup walked_kept.seen.expanded_once

  pub measured_once : Nodup (visited_ids (walked c))
  unfolding visited_ids
  measured_once = apart_nodup walked_kept.seen.once

  pub expanded_measured : (i : ℕ) → Mem i (walked c).expanded → Mem i (visited_ids (walked c))
  unfolding visited_ids
  expanded_measured = walked_kept.seen.expanded_seen

  pub measured_below : (i : ℕ) → Mem i (visited_ids (walked c)) → i < c.n
  unfolding walked searched
  measured_below = visited_below g

-- ---- what the two counts say of each other; and what they count

-- each entry is measured at most once; it is the start, or stood in the row of an expanded one; and what is expanded was measured
pub record CountsTell (n degree : ℕ) (a : Answer) : Type 0 where
  pub measured_most : a.measured ≤ n
  pub measured_rows : a.measured ≤ 1 + degree * a.expanded
  pub expanded_most : a.expanded ≤ a.measured

pub record CountsNothing (a : Answer) : Type 0 where
  pub none_expanded : a.expanded ≡ 0
  pub none_measured : a.measured ≡ 0

-- of an accepted search that ends in the state s: as many as it expanded, and as many as it visited
pub record CountsWalk (s : State) (a : Answer) : Type 0 where
  pub expanded_is : a.number ≡ 0 → a.expanded ≡ length s.expanded
  pub measured_is : a.number ≡ 0 → a.measured ≡ length s.visited
  pub refused_none : a.number ≢ 0 → CountsNothing a

-- how the answer of a search was made
data Answered (c : SearchCall) : Answer → Type 0 where
  was_refused : (k : ℕ) → Answered c (refused (suc k))
  was_accepted : SearchAccepted c → Answered c (search_done c).answer

-- what CountsTell says of it
answered_tells : {c : SearchCall} {a : Answer} → Answered c a → (a.measured ≤ c.n) × (a.measured ≤ 1 + c.degree * a.expanded) × (a.expanded ≤ a.measured)
unfolding search_done search_answer refused answer walked searched
answered_tells (was_refused k) = (zero-le, zero-le, zero-le)
answered_tells {c} (was_accepted a) = (
  visited_most (ground c a) (walked c) (walked_kept c a),
  visited_few (ground c a) c.degree (λ i h. omega (arith, row-length c.n c.degree c.table a.table_is i h)),
  expanded_within (ground c a) (walked c) (walked_kept c a),
)

-- what CountsWalk says of it
answered-walk : {c : SearchCall} {a : Answer} → Answered c a
    → (a.number ≡ 0 → (a.expanded ≡ length (walked c).expanded) × (a.measured ≡ length (walked c).visited)) × (a.number ≢ 0 → CountsNothing a)
unfolding search_done search_answer refused answer
answered-walk (was_refused k) = (λ z. absurd (omega arith), λ some. record { none_expanded = refl; none_measured = refl })
answered-walk (was_accepted a) = (λ z. (refl, refl), λ some. absurd (some refl))

module _ {A : Type 0} (says : A → Answer) (kept success : A) where
  by_answer : (c : SearchCall) (k : ℕ) → says kept ≡ refused k → says success ≡ (search_done c).answer → (k ≡ 0 → SearchAccepted c)
      → Answered c (says (by_number k kept success))
  unfolding by_number
  by_answer c zero r s a = subst (Answered c) (sym s) (was_accepted (a refl))
  by_answer c (suc k) r s a = subst (Answered c) (sym r) (was_refused k)

search_answered : (c : SearchCall) (a : Answer) → a ≡ (search_out c).answer → Answered c a
unfolding search_out search_kept
search_answered c a is =
    subst (Answered c) (sym is)
    (by_answer (λ (o : SearchOut). o.answer) (search_kept c) (search_done c) c (search_number c) refl refl (search_accepted c))

records_answered : (c : SearchCall) (rs : List Candidate) (p : SearchOut) → p ≡ (records_out c rs).plain → Answered c p.answer
unfolding records_out records_kept records_done
records_answered c rs p is =
    subst (λ (q : SearchOut). Answered c q.answer) (sym is)
    (by_answer (λ (o : RecordsOut). o.plain.answer) (records_kept c rs) (records_done c rs) c (records_number c rs) refl refl
    (λ z. (records_accepted c rs z).0))

lookup_answered : (c : SearchCall) (a : Answer) → a ≡ (lookup_out c).answer → Answered (cleaned_call c) a
unfolding lookup_out
lookup_answered c a is = search_answered (cleaned_call c) a is

pub search_counts : (c : SearchCall) (o : SearchOut) → SearchMeets c o → CountsTell c.n c.degree o.answer
search_counts c o m =
    let t = answered_tells (search_answered c o.answer m.answer_is) in
    record { measured_most = t.0; measured_rows = t.1; expanded_most = t.2 }

pub records_counts : (c : SearchCall) (rs : List Candidate) (o : RecordsOut) → RecordsMeets c rs o → CountsTell c.n c.degree o.plain.answer
records_counts c rs o m =
    let t = answered_tells (records_answered c rs o.plain m.plain_is) in
    record { measured_most = t.0; measured_rows = t.1; expanded_most = t.2 }

pub lookup_counts : (c : SearchCall) (o : SearchOut) → LookupMeets c o → CountsTell c.n c.degree o.answer
unfolding cleaned_call
lookup_counts c o m =
    let t = answered_tells (lookup_answered c o.answer m.answer_is) in
    record { measured_most = t.0; measured_rows = t.1; expanded_most = t.2 }

pub search_counts_walk : (c : SearchCall) (o : SearchOut) → SearchMeets c o → CountsWalk (walked c) o.answer
search_counts_walk c o m =
    let w = answered-walk (search_answered c o.answer m.answer_is) in
    record { expanded_is = λ z. (w.0 z).0; measured_is = λ z. (w.0 z).1; refused_none = w.1 }

pub records_counts_walk : (c : SearchCall) (rs : List Candidate) (o : RecordsOut) → RecordsMeets c rs o → CountsWalk (walked c) o.plain.answer
records_counts_walk c rs o m =
    let w = answered-walk (records_answered c rs o.plain m.plain_is) in
    record { expanded_is = λ z. (w.0 z).0; measured_is = λ z. (w.0 z).1; refused_none = w.1 }

pub lookup_counts_walk : (c : SearchCall) (o : SearchOut) → LookupMeets c o → CountsWalk (walked (cleaned_call c)) o.answer
lookup_counts_walk c o m =
    let w = answered-walk (lookup_answered c o.answer m.answer_is) in
    record { expanded_is = λ z. (w.0 z).0; measured_is = λ z. (w.0 z).1; refused_none = w.1 }

-- a beam of 1, as which 0 acts, is full with the start: nothing is expanded, and one distance is worked out
beam_one_walked : (c : SearchCall) → c.beam ≤ 1 → walked c ≡ begin (distance_to c) 1 c.start
unfolding walked searched
beam_one_walked c h =
    let one : max c.beam 1 ≡ 1 = omega arith in
    ap (λ (b : ℕ). greedy (distance_to c) (rows_of c) c.n b c.start) one ∙ beam_one_begins (distance_to c) (rows_of c) c.n c.start

pub beam_one_counts : (c : SearchCall) (a : Answer) → CountsWalk (walked c) a → c.beam ≤ 1 → a.number ≡ 0 → (a.expanded ≡ 0) × (a.measured ≡ 1)
unfolding begin
beam_one_counts c a w h z = (
  w.expanded_is z ∙ ap (λ (s : State). length s.expanded) (beam_one_walked c h),
  w.measured_is z ∙ ap (λ (s : State). length s.visited) (beam_one_walked c h),
)

-- ---- every other public call counts nothing, accepted or refused; a report has no such counts

pub record NoSearchCounts : Type 0 where
  pub of_distance : (c : DistanceCall) (o : Answer) → o ≡ distance_out c → CountsNothing o
  pub of_medoid : (c : MedoidCall) (o : Answer) → o ≡ medoid_out c → CountsNothing o
  pub of_fit : (c : FitCall) (o : Answer) → o ≡ fit_out c → CountsNothing o
  pub of_batch : (c : BatchCall) (o : BatchOut) → BatchMeets c o → CountsNothing o.answer
  pub of_open : (c : OpenCall) (o : OpenOut) → OpenMeets c o → CountsNothing o.answer
  pub of_close : (c : CloseCall) (o : CloseOut) → CloseMeets c o → CountsNothing o.answer
  pub of_build : (c : BuildCall) (o : BuildOut) → BuildMeets c o → CountsNothing o.answer
  pub of_exhaustive : (c : ExhaustiveCall) (o : ExhaustiveOut) → ExhaustiveMeets c o → CountsNothing o.answer
  pub of_draw : (m s : ℕ) (o : DrawOut) → DrawMeets m s o → CountsNothing o.answer
  pub of_rows : (c : RowsCall) (o : FillOut) → FillMeets (rows_out c) o → CountsNothing o.answer
  pub of_seeds : (c : SeedsCall) (o : FillOut) → FillMeets (seeds_out c) o → CountsNothing o.answer
  pub of_order : (c : DrawsCall) (o : FillOut) → FillMeets (order_out c) o → CountsNothing o.answer
  pub of_pivots : (c : DrawsCall) (o : FillOut) → FillMeets (pivots_out c) o → CountsNothing o.answer

abbrev Zeros : Answer → Type 0
Zeros a = (a.expanded ≡ 0) × (a.measured ≡ 0)

zeros_nothing : {o : Answer} (a : Answer) → Zeros a → o ≡ a → CountsNothing o
zeros_nothing a z e = subst CountsNothing (sym e) (record { none_expanded = z.0; none_measured = z.1 })

-- neither a refusal nor a success counts anything
module _ {A : Type 0} (says : A → Answer) {kept success : A} where
  either_nothing : (k : ℕ) {o : Answer} → Zeros (says kept) → Zeros (says success) → o ≡ says (by_number k kept success) → CountsNothing o
  unfolding by_number
  either_nothing zero p q e = zeros_nothing (says success) q e
  either_nothing (suc k) p q e = zeros_nothing (says kept) p e

pub no_search_counts : NoSearchCounts
unfolding answer refused done distance_out medoid_out fit_out batch_out batch_kept batch_done open_out open_kept open_done close_out close_kept close_done
    build_out build_kept build_done exhaustive_out exhaustive_kept exhaustive_done draw_out rows_out seeds_out order_out pivots_out fill_kept fill_done
no_search_counts =
    record {
      of_distance = λ c o e. either_nothing (λ (a : Answer). a) _ (refl, refl) (refl, refl) e;
      of_medoid = λ c o e. either_nothing (λ (a : Answer). a) _ (refl, refl) (refl, refl) e;
      of_fit = λ c o e. zeros_nothing _ (refl, refl) e;
      of_batch = λ c o m. either_nothing (λ (p : BatchOut). p.answer) _ (refl, refl) (refl, refl) m.answer_is;
      of_open = λ c o m. either_nothing (λ (p : OpenOut). p.answer) _ (refl, refl) (refl, refl) m.answer_is;
      of_close = λ c o m. either_nothing (λ (p : CloseOut). p.answer) _ (refl, refl) (refl, refl) m.answer_is;
      of_build = λ c o m. either_nothing (λ (p : BuildOut). p.answer) _ (refl, refl) (refl, refl) m.answer_is;
      of_exhaustive = λ c o m. either_nothing (λ (p : ExhaustiveOut). p.answer) _ (refl, refl) (refl, refl) m.answer_is;
      of_draw = λ b s o m. zeros_nothing _ (refl, refl) m.answer_is;
      of_rows = λ c o m. either_nothing (λ (p : FillOut). p.answer) _ (refl, refl) (refl, refl) m.answer_is;
      of_seeds = λ c o m. either_nothing (λ (p : FillOut). p.answer) _ (refl, refl) (refl, refl) m.answer_is;
      of_order = λ c o m. either_nothing (λ (p : FillOut). p.answer) _ (refl, refl) (refl, refl) m.answer_is;
      of_pivots = λ c o m. either_nothing (λ (p : FillOut). p.answer) _ (refl, refl) (refl, refl) m.answer_is;
    }

-- ---- an example, with a beam of 2. The entries are 400, 100, 25 and 0 from the query; the row of 0, the start, names 1 and 2, and that of 2 names 3

unfoldable pub leaving_call : SearchCall
leaving_call =
    record {
      n = 4;
      dim = 1;
      vectors = 5 ∷ 15 ∷ 20 ∷ 25 ∷ [];
      degree = 2;
      beam = 2;
      k = 2;
      start = 0;
      table = 1 ∷ 2 ∷ 0 ∷ pad ∷ 0 ∷ 3 ∷ 2 ∷ pad ∷ [];
      query = 25 ∷ [];
      words = replicate 516 0;
      floats = replicate 512 nought;
      ids = 0 ∷ 0 ∷ [];
      dists = nought ∷ nought ∷ [];
    }

-- 1 is in the full beam after one step. After two it has left for 3, though it still stands in the frontier; and it is never expanded
pub entry_leaves : (ids_of (walked_for leaving_call 1).work ≡ 1 ∷ 2 ∷ [])
    × (ids_of (walked_for leaving_call 2).work ≡ 2 ∷ 3 ∷ [])
    × (ids_of (walked_for leaving_call 2).frontier ≡ 1 ∷ 3 ∷ [])
    × ((walked leaving_call).expanded ≡ 3 ∷ 2 ∷ 0 ∷ [])
    × ((search_out leaving_call).answer ≡ search_answer 2 3 4)
unfolding leaving_call opened
entry_leaves = (refl, refl, refl, refl, refl)

-- which the theorem says of it
pub leaving_entry_unexpanded : ¬ Mem 1 (walked leaving_call).expanded
unfolding leaving_call opened
leaving_entry_unexpanded =
    stays_unexpanded leaving_call (search_accepted leaving_call refl) 2 (item 100 1) (there (here refl))
    (λ m. is_in-none 1 (2 ∷ 3 ∷ []) refl (id_in m)) (is_in-none 1 (2 ∷ 0 ∷ []) refl) 2 (lit≤ tt)
