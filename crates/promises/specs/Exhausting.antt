-- Exhaustive search (1/13), over what a caller holds after one that was not refused: the front of the two outputs, `count` places of each. They are the
-- min(k, n) nearest of all entries, each once and with its own distance beside it, in the answers' order; and an entry that is not among them is listed
-- after each of them, so none that is missing comes before the last: it is no nearer than any of them, and an equal of one has a lower id (3/13). Nothing else
-- here turns on what that order is.
use Rattle.std.specs.Prelude.{ℕ, ◌<◌, min, ◌≡◌, refl, true, Float}
use Rattle.std.proofs.Common.{sym, ◌∙◌, subst}
use Rattle.std.proofs.Math.Path.{ap}
use mathlib.Core.List.Memᴰ.{head as here}
use mathlib.Core.List.Memᴰ.{tail as there}
use mathlib.Core.List.{List, map, map-map, Nodup, Memᴰ as Mem}
use Rattle.std.proofs.Math.ListN.{length, take, length-map}
use Rattle.definition.specs.Lists.{over}
use Rattle.definition.specs.Metric.{from_query, whole}
use Rattle.definition.specs.Beam.{Item, item}
use Rattle.definition.specs.Search.{listed_first}
use Rattle.definition.specs.Refusals.{ExhaustiveCall, exhaustive_number}
use Rattle.definition.specs.Outcome.{answer, refused, nearest_to, ExhaustiveOut, ExhaustiveMeets, exhaustive_out, exhaustive_kept, exhaustive_done}
use Rattle.laws.specs.Mapped.{map_same}
use Rattle.laws.specs.Apart.{apart_nodup}
use Rattle.laws.specs.Sorting.{Ordered, none, more}
use Rattle.laws.specs.Writing.{over_front}
use Rattle.laws.specs.Items.{ids_of, ids_elim, listed_higher}
use Rattle.theory.specs.recall.Nearest.{nearest_count, nearest_own, nearest_ordered, nearest_once, nearest_before}
use Rattle.accepted.specs.Outcomes.{by_success, said_zero}
use Rattle.promises.specs.Outcomes.{exhaustive_is}

-- the distance from the query to an entry, and the entry as it is listed
abbrev pub distance_from : ExhaustiveCall → ℕ → ℕ
distance_from c = from_query c.dim c.vectors c.query

abbrev pub entry : ExhaustiveCall → ℕ → Item
entry c i = item (distance_from c i) i

pub record NearestHeld (c : ExhaustiveCall) (count : ℕ) (ids : List ℕ) (dists : List Float) : Type 0 where
  pub count_is : count ≡ min c.k c.n
  pub ids_are : take count ids ≡ map (λ a. a.id) (nearest_to c)
  pub size : length (take count ids) ≡ count
  pub once : Nodup (take count ids)
  pub below : (i : ℕ) → Mem i (take count ids) → i < c.n
  pub own : take count dists ≡ map (λ i. whole (distance_from c i)) (take count ids)
  pub ordered : Ordered (λ i j. listed_first (entry c i) (entry c j)) (take count ids)
  pub left_out : (i : ℕ) → i < c.n → ¬ Mem i (take count ids) → (j : ℕ) → Mem j (take count ids) → listed_first (entry c j) (entry c i) ≡ true
  pub newer : (i : ℕ) → i < c.n → ¬ Mem i (take count ids) → (j : ℕ) → Mem j (take count ids) → distance_from c i ≡ distance_from c j → i < j

-- items in order, each with its own distance: so are their ids
ids_ordered : (d : ℕ → ℕ) {l : List Item} → ((x : Item) → Mem x l → x ≡ item (d x.id) x.id) → Ordered listed_first l
    → Ordered (λ i j. listed_first (item (d i) i) (item (d j) j)) (ids_of l)
ids_ordered d own none = none
ids_ordered d own (more {x = x} {xs = xs} l a) =
    more
    (ids_elim (λ j. listed_first (item (d x.id) x.id) (item (d j) j) ≡ true) xs
    (λ c m. rw (← own x (here refl), ← own c (there m)) (l c m)))
    (ids_ordered d (λ c m. own c (there m)) a)

module _ (c : ExhaustiveCall) where
  abbrev d : ℕ → ℕ
  d = distance_from c

  answer_own : (x : Item) → Mem x (nearest_to c) → x ≡ entry c x.id
  unfolding nearest_to
  answer_own x m = λ i. record { dist = (nearest_own d c.n c.k x m).0 i; id = x.id }

  answers_count : length (nearest_to c) ≡ min c.k c.n
  unfolding nearest_to
  answers_count = nearest_count d c.n c.k

  answers_once : Nodup (ids_of (nearest_to c))
  unfolding nearest_to
  answers_once = apart_nodup (nearest_once d c.n c.k)

  answers_below : (x : Item) → Mem x (nearest_to c) → x.id < c.n
  unfolding nearest_to
  answers_below x m = (nearest_own d c.n c.k x m).1

  answers_ordered : Ordered listed_first (nearest_to c)
  unfolding nearest_to
  answers_ordered = nearest_ordered d c.n c.k

  answers_left_out : (i : ℕ) → i < c.n → ¬ Mem i (ids_of (nearest_to c)) → (j : ℕ) → Mem j (ids_of (nearest_to c)) → listed_first (entry c j) (entry c i) ≡ true
  unfolding nearest_to
  answers_left_out i h out =
      ids_elim (λ j. listed_first (entry c j) (entry c i) ≡ true) (nearest_to c)
      (λ y m. ap (λ (x : Item). listed_first x (entry c i)) (sym (answer_own y m)) ∙ nearest_before d c.n c.k i h out y m)

pub exhaustive_held : (c : ExhaustiveCall) (o : ExhaustiveOut) → ExhaustiveMeets c o → o.answer.number ≡ 0
    → NearestHeld c o.answer.count o.ids o.dists
unfolding exhaustive_out exhaustive_kept exhaustive_done refused answer
exhaustive_held c o m accepted =
    let is = exhaustive_is m in
    let passed = said_zero (exhaustive_kept c) (exhaustive_done c) (λ (p : ExhaustiveOut). p.answer.number) (exhaustive_number c) refl
    (ap (λ (p : ExhaustiveOut). p.answer.number) (sym is) ∙ accepted) in
    subst (λ (p : ExhaustiveOut). NearestHeld c p.answer.count p.ids p.dists)
    (sym (is ∙ by_success (exhaustive_kept c) (exhaustive_done c) (exhaustive_number c) passed)) done_held
  where
    ids_are : take (length (nearest_to c)) (over (ids_of (nearest_to c)) c.ids) ≡ ids_of (nearest_to c)
    ids_are = over_front (ids_of (nearest_to c)) c.ids (length (nearest_to c)) (length-map (nearest_to c) (λ a. a.id))

    far : Item → Float
    far a = whole a.dist

    dists_are : take (length (nearest_to c)) (over (map far (nearest_to c)) c.dists) ≡ map far (nearest_to c)
    dists_are = over_front (map far (nearest_to c)) c.dists (length (nearest_to c)) (length-map (nearest_to c) far)

    own : map far (nearest_to c) ≡ map (λ i. whole (distance_from c i)) (ids_of (nearest_to c))
    own =
        map_same far (λ a. whole (distance_from c a.id)) (nearest_to c) (λ x m. ap (λ (y : Item). whole y.dist) (answer_own c x m))
        ∙ sym (map-map (λ i. whole (distance_from c i)) (λ a. a.id) (nearest_to c))

    done_held : NearestHeld c (exhaustive_done c).answer.count (exhaustive_done c).ids (exhaustive_done c).dists
    done_held =
        record {
          count_is = answers_count c;
          ids_are = ids_are;
          size = ap length ids_are ∙ length-map (nearest_to c) (λ a. a.id);
          once = rw ids_are (answers_once c);
          below = rw ids_are (ids_elim (λ i. i < c.n) (nearest_to c) (answers_below c));
          own = dists_are ∙ own ∙ ap (map (λ i. whole (distance_from c i))) (sym ids_are);
          ordered = rw ids_are (ids_ordered (distance_from c) (answer_own c) (answers_ordered c));
          left_out = rw ids_are (answers_left_out c);
          newer = rw ids_are (λ i h out j m e. listed_higher (entry c j) (entry c i) (answers_left_out c i h out j m) (sym e));
        }
