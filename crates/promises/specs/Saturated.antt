-- 5/13: "a sample that is 255 in either vector adds 0 to the distance. The distance is still symmetric, whole and at most 16,646,400, and 0 between a vector
-- and itself, but 0 no longer means equal bytes." Here of the public call; and what stands against a saturated sample does not matter to it, nor, where it is
-- the query that is saturated, to a search or a lookup. (What a distance is, stands in theory, Metric.)
use Rattle.std.specs.Prelude.{ℕ, ◌+◌, ◌*◌, ◌≤◌, ◌<◌, ◌≡◌, refl, ◌⊎◌, List, [], ◌∷◌, map, length, get_or}
use Rattle.std.proofs.Common.{ap, ap₂, ◌∙◌}
use Rattle.definition.specs.Lists.{over, cleared}
use Rattle.definition.specs.Tables.{row}
use Rattle.definition.specs.Metric.{saturated, squared, summed, metric, whole, from_query}
use Rattle.definition.specs.Floats.{nought}
use Rattle.definition.specs.Search.{searched, answers}
use Rattle.definition.specs.Refusals.{◌when◌else◌, bad_dim, bad_vectors, DistanceCall, distance_number}
use Rattle.definition.specs.Refusals.{SearchCall, search_number, search_number_at, search_short, search_words, search_floats}
use Rattle.definition.specs.Outcome.{answer, refused, by_number, search_answer, distance_out}
use Rattle.definition.specs.Outcome.{SearchOut, found, walked, found_ids, found_dists, search_out, search_kept, search_done, cleaned_call, lookup_out}
use Rattle.theory.specs.Metric.{Bytes, byte_metric, metric_most, metric_silent, query_silent}
use Rattle.accepted.specs.Outcomes.{by_success}
use Rattle.accepted.specs.Chain.{passed}
use Rattle.accepted.specs.Checks.{dim_good}

-- ---- distance

abbrev pub of : List ℕ → List ℕ → DistanceCall
of a b = record { first = a; second = b }

-- an accepted call
module _ (a b : List ℕ) (z : distance_number (of a b) ≡ 0) where
  pub distance_is : distance_out (of a b) ≡ answer 0 0 0 0 (whole (metric a b))
  unfolding distance_out
  distance_is = by_success (refused (distance_number (of a b))) (answer 0 0 0 0 (whole (metric a b))) (distance_number (of a b)) z

  pub distance_most : Bytes a → Bytes b → metric a b ≤ 16516096
  unfolding distance_number
  distance_most p q = metric_most a b (dim_good (length a) (passed 0 _ _ z).0).1 p q

-- any call of two vectors as long as each other: the same number and the same distance either way round
pub distance_turned : (a b : List ℕ) → length a ≡ length b → distance_out (of a b) ≡ distance_out (of b a)
unfolding distance_out distance_number
distance_turned a b l = rw (byte_metric.symmetric a b, l) refl

-- of a vector and itself: 0, unless it is refused
pub distance_itself : (a : List ℕ) → distance_number (of a a) ≡ 0 → distance_out (of a a) ≡ answer 0 0 0 0 (whole 0)
distance_itself a z = distance_is a a z ∙ ap (λ (d : ℕ). answer 0 0 0 0 (whole d)) (byte_metric.same a)

-- any call: what the second vector has where the first is saturated does not matter
pub distance_silent : (a b other : List ℕ) → length b ≡ length other
    → ((k : ℕ) → k < length b → (get_or a k 0 ≡ 255) ⊎ (get_or b k 0 ≡ get_or other k 0)) → distance_out (of a b) ≡ distance_out (of a other)
unfolding distance_out distance_number
distance_silent a b other l h = rw (metric_silent a b other l h, l) refl

-- 0 does not mean equal bytes
pub distance_zero_unequal : distance_out (of (0 ∷ []) (255 ∷ [])) ≡ answer 0 0 0 0 (whole 0)
unfolding distance_out distance_number bad_dim ◌when◌else◌ by_number metric summed squared saturated
distance_zero_unequal = refl

-- ---- search, lookup

abbrev pub with_vectors : List ℕ → SearchCall → SearchCall
with_vectors vectors c =
    record {
      n = c.n;
      dim = c.dim;
      vectors = vectors;
      degree = c.degree;
      beam = c.beam;
      k = c.k;
      start = c.start;
      table = c.table;
      query = c.query;
      words = c.words;
      floats = c.floats;
      ids = c.ids;
      dists = c.dists;
    }

-- as many other samples, the same ones in each entry but where the query is saturated
pub record SaidAlike (c : SearchCall) (vectors : List ℕ) : Type 0 where
  pub size : length c.vectors ≡ length vectors
  pub alike : (i j : ℕ) → j < c.dim → (get_or c.query j 0 ≡ 255) ⊎ (get_or c.vectors (i * c.dim + j) 0 ≡ get_or vectors (i * c.dim + j) 0)

-- what a search leaves, by its distances
done_by : SearchCall → (ℕ → ℕ) → SearchOut
done_by c dist =
    let s = searched dist (row c.degree c.table) c.n c.beam c.start in
    let l = answers dist (row c.degree c.table) c.n c.beam c.start c.k in
    record {
      answer = search_answer (length l) (length s.expanded) (length s.visited);
      words = cleared 0 (search_words c.n) c.words;
      floats = cleared nought search_floats c.floats;
      ids = over (map (λ x. x.id) l) c.ids;
      dists = over (map (λ x. whole x.dist) l) c.dists;
    }

-- as many samples, and the same distances from the query
as_far : (c : SearchCall) (vectors : List ℕ) → length c.vectors ≡ length vectors → from_query c.dim c.vectors c.query ≡ from_query c.dim vectors c.query
    → search_out c ≡ search_out (with_vectors vectors c)
unfolding search_out search_kept search_done found walked found_ids found_dists done_by search_number search_number_at bad_vectors search_short
as_far c vectors size far =
    let number : search_number c ≡ search_number (with_vectors vectors c) = rw size refl in
    ap₂ (λ (k : ℕ) (d : ℕ → ℕ).
    by_number k (record { answer = refused k; words = c.words; floats = c.floats; ids = c.ids; dists = c.dists }) (done_by c d)) number far

-- any call, refused or not: the same answers, counts and number, and everything lent is left the same
pub search_silent : (c : SearchCall) (vectors : List ℕ) → SaidAlike c vectors → search_out c ≡ search_out (with_vectors vectors c)
search_silent c vectors h = as_far c vectors h.size (λ t i. query_silent c.dim c.vectors vectors c.query h.size h.alike i t)

pub lookup_silent : (c : SearchCall) (vectors : List ℕ) → SaidAlike c vectors → lookup_out c ≡ lookup_out (with_vectors vectors c)
unfolding lookup_out cleaned_call
lookup_silent c vectors h = as_far (cleaned_call c) vectors h.size (λ t i. query_silent c.dim c.vectors vectors c.query h.size h.alike i t)
