-- Demand 3, second sentence: what the answers of a search tell, and what they exclude. For every accepted search, with a run of records or not, and every
-- accepted text of `seek` (crate accepted says what those have), for every k: as many answers are asked for as min(k, max(beam, 1)).
-- "Answers by distance, then id, cut to k", the higher id first (3/13). Each has its own distance and is below n; they stand in strict order; what is cut off
-- comes after all of them.
use Rattle.std.specs.Prelude.{ℕ, ◌-◌, ◌≤◌, ◌<◌, max, min, ◌≡◌, ◌⊎◌, true, length, get_or, take, drop}
use Rattle.std.proofs.Common.{arith, sym, inl, inr, take-append-drop}
use Rattle.std.proofs.Math.Path.{refl, subst}
use mathlib.Core.List.Memᴰ.{append_cases as split}
use mathlib.Core.List.{List, ◌++◌, Pairwise, Memᴰ as Mem}
use Rattle.definition.specs.Lists.{sort}
use Rattle.definition.specs.Tables.{row}
use Rattle.definition.specs.Metric.{from_query}
use Rattle.definition.specs.Beam.{Item, nobody, best}
use Rattle.definition.specs.Greedy.{State, greedy}
use Rattle.definition.specs.Search.{listed_first, ranked, searched, answers}
use Rattle.definition.specs.Refusals.{SearchCall, search_number}
use Rattle.definition.specs.Outcome.{found, found_ids}
use Rattle.laws.specs.Sorting.{Ordered, mem_sort, take_ordered, ordered_across, ordered_pairwise}
use Rattle.laws.specs.Items.{ids_of, listed_higher}
use Rattle.theory.specs.search.Tells.{SearchTells, Excludes}
use Rattle.theory.specs.search.Ground.{Ground}
use Rattle.theory.specs.search.Stopped.{stopped_ordered, stopped_tells, stopped_excludes}
use Rattle.theory.specs.search.Ends.{greedy_done}
use Rattle.accepted.specs.Search.{SearchAccepted, ground, search_accepted}

-- the rows of a call, and the distance from its query to an entry
abbrev pub rows_of : SearchCall → ℕ → List ℕ
rows_of c = row c.degree c.table

abbrev pub distance_to : SearchCall → ℕ → ℕ
distance_to c = from_query c.dim c.vectors c.query

-- the distance of the last answer; 0 where there is none, which is only so with k = 0
abbrev pub last_distance : SearchCall → ℕ
last_distance c = (get_or (found c) (length (found c) - 1) nobody).dist

module _ (c : SearchCall) (a : SearchAccepted c) where
  abbrev g : Ground
  g = ground c a

  open g use {d, rows, beam}

  abbrev end : State
  end = greedy d rows c.n beam c.start

  found_is : found c ≡ take c.k (sort listed_first end.work)
  unfolding found answers ranked searched
  found_is = refl

  -- over the ground of the call
  pub told : SearchTells rows d c.start (min c.k beam) (found_ids c) (last_distance c)
  unfolding found_ids best
  told =
      subst (λ (l : List Item). SearchTells rows d c.start (min c.k beam) (ids_of l) (best l).dist) (sym found_is)
      (stopped_tells g end (greedy_done g) c.k)

  pub search_tells : SearchTells (row c.degree c.table) (from_query c.dim c.vectors c.query) c.start (min c.k (max c.beam 1))
      (found_ids c) (last_distance c)
  search_tells = told

  pub search_excludes : Excludes (row c.degree c.table) (from_query c.dim c.vectors c.query) c.start (found_ids c) (last_distance c)
  unfolding found_ids best
  search_excludes =
      subst (λ (l : List Item). Excludes rows d c.start (ids_of l) (best l).dist) (sym found_is) (stopped_excludes g end (greedy_done g) c.k)

  pub search_order : Ordered listed_first (found c)
  search_order =
      subst (λ (l : List Item). Ordered listed_first l) (sym found_is)
      (take_ordered c.k (sort listed_first end.work) (stopped_ordered g end (greedy_done g)))

  pub search_ordered : Pairwise (λ (x y : Item). listed_first x y ≡ true) (found c)
  search_ordered = ordered_pairwise search_order

  beyond : (x y : Item) → Mem x end.work → ¬ Mem x (found c) → Mem y (found c) → listed_first y x ≡ true
  beyond x y held out answered = go (split (take c.k sorted) (subst (λ (l : List Item). Mem x l) (sym parts) (mem_sort listed_first end.work held)))
    where
      sorted : List Item
      sorted = sort listed_first end.work

      parts : take c.k sorted ++ drop c.k sorted ≡ sorted
      parts = take-append-drop c.k sorted

      go : Mem x (take c.k sorted) ⊎ Mem x (drop c.k sorted) → listed_first y x ≡ true
      go (inl m) = absurd (out (subst (λ (l : List Item). Mem x l) (sym found_is) m))
      go (inr m) =
          ordered_across (take c.k sorted) (drop c.k sorted)
          (subst (λ (l : List Item). Ordered listed_first l) (sym parts) (stopped_ordered g end (greedy_done g))) y x
          (subst (λ (l : List Item). Mem y l) found_is answered) m

  -- "cut to k": what the search holds at its end and does not answer is listed after every answer
  pub search_cut : (x y : Item) → Mem x (searched (from_query c.dim c.vectors c.query) (row c.degree c.table) c.n c.beam c.start).work
      → ¬ Mem x (found c)
      → Mem y (found c)
      → listed_first y x ≡ true
  unfolding searched
  search_cut x y held out answered = beyond x y held out answered

  -- so of equals the newer are answered: what is not answered and is as far as an answer has a lower id
  pub search_newer : (x y : Item) → Mem x (searched (from_query c.dim c.vectors c.query) (row c.degree c.table) c.n c.beam c.start).work
      → ¬ Mem x (found c)
      → Mem y (found c)
      → x.dist ≡ y.dist
      → x.id < y.id
  unfolding searched
  search_newer x y held out answered e = listed_higher y x (beyond x y held out answered) (sym e)

-- where k is at least the beam, a beam of 0 read as 1, the beam's number is asked for
pub search_claim : (c : SearchCall) → search_number c ≡ 0 → max c.beam 1 ≤ c.k
    → SearchTells (row c.degree c.table) (from_query c.dim c.vectors c.query) c.start (max c.beam 1) (found_ids c) (last_distance c)
search_claim c e enough =
    subst (λ (b : ℕ). SearchTells (row c.degree c.table) (from_query c.dim c.vectors c.query) c.start b (found_ids c) (last_distance c))
    (omega arith) (told c (search_accepted c e))
