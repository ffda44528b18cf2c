-- The P cases of document 01, in one list under one theorem. Each case is what the definition gives, and what document 01 says, as whole numbers.
use Rattle.std.specs.Prelude.{ℕ, List, [], ◌∷◌, map, ◌≡◌, refl, take, replicate, Float}
use Rattle.std.specs.Float.{binary32}
use Rattle.std.specs.Float.Ieee.{of_bits, to_unsigned}
use Rattle.definition.specs.declared.Answer.{Answer}
use Rattle.definition.specs.Metric.{between}
use Rattle.definition.specs.Floats.{nought}
use Rattle.definition.specs.Prune.{prune, measured}
use Rattle.definition.specs.Medoid.{score}
use Rattle.definition.specs.Refusals.{SearchCall, BuildCall, most_answers, search_words, search_floats, build_words, build_floats, build_number}
use Rattle.definition.specs.Outcome.{distance_out, search_out, SearchOut, medoid_out, draw_out, build_out}
use Rattle.definition.specs.checked.Opened.{opened}
use Rattle.definition.specs.checked.Builds.{shown}

-- the whole number that a float is
unfoldable pub as_whole : Float → ℕ
as_whole x = to_unsigned 32 x

-- the number, then the other six fields of an answer
unfoldable pub fields : Answer → List ℕ
fields a = a.number ∷ a.count ∷ a.id ∷ a.draw ∷ as_whole a.distance ∷ a.expanded ∷ a.measured ∷ []

-- ---- distance

unfoldable pub distance_of : List ℕ → List ℕ → List ℕ
distance_of a b = fields (distance_out (record { first = a; second = b }))

-- ---- the line

unfoldable pub line : List ℕ
line = 10 ∷ 20 ∷ 30 ∷ 40 ∷ []

unfoldable pub line_rows : List ℕ
line_rows = 1 ∷ 0xFFFFFFFF ∷ 0 ∷ 2 ∷ 1 ∷ 3 ∷ 2 ∷ 0xFFFFFFFF ∷ []

-- a search of the four entries from start 0, with outputs of just the room asked for
unfoldable pub line_call : List ℕ → ℕ → ℕ → ℕ → SearchCall
line_call vectors query beam k =
    record {
      n = 4;
      dim = 1;
      vectors = vectors;
      degree = 2;
      beam = beam;
      k = k;
      start = 0;
      table = line_rows;
      query = query ∷ [];
      words = replicate (search_words 4) 7;
      floats = replicate search_floats nought;
      ids = replicate (most_answers beam k) 7;
      dists = replicate (most_answers beam k) nought;
    }

-- number and count; then the ids and the distances that the answer counts
unfoldable pub told : SearchOut → List (List ℕ)
told o = (o.answer.number ∷ o.answer.count ∷ []) ∷ take o.answer.count o.ids ∷ take o.answer.count (map as_whole o.dists) ∷ []

unfoldable pub line_search : List ℕ → ℕ → ℕ → ℕ → List (List ℕ)
line_search vectors query beam k = told (search_out (line_call vectors query beam k))

-- ---- pruning of node 0, all other entries its pool

unfoldable pub pruned : List ℕ → List ℕ → ℕ → List ℕ
pruned vectors others alphaBits = prune (between 2 vectors) 4 (of_bits binary32 alphaBits) 0 (measured (between 2 vectors 0) others)

-- ---- the list

pub record Sample : Type 0 where
  pub got : List (List ℕ)
  pub want : List (List ℕ)

abbrev pub case : List (List ℕ) → List (List ℕ) → Sample
case g w = record { got = g; want = w }

abbrev pub case₁ : List ℕ → List ℕ → Sample
case₁ g w = case (g ∷ []) (w ∷ [])

unfoldable pub samples : List Sample
samples =
    -- distance of 0 and 254; 256 such samples; dim 257
    case₁ (distance_of (0 ∷ []) (254 ∷ [])) (0 ∷ 0 ∷ 0 ∷ 0 ∷ 64516 ∷ 0 ∷ 0 ∷ []) ∷
    case₁ (distance_of (replicate 256 0) (replicate 256 254)) (0 ∷ 0 ∷ 0 ∷ 0 ∷ 16516096 ∷ 0 ∷ 0 ∷ []) ∷
    case₁ (distance_of (replicate 257 0) (replicate 257 254)) (1 ∷ 0 ∷ 0 ∷ 0 ∷ 0 ∷ 0 ∷ 0 ∷ []) ∷
    -- distance of 0 and 255, of 255 and 0, of 254 and 255; 255 in one place or the other, and 3 and 7 between (as 5/13 gives them)
    case₁ (distance_of (0 ∷ []) (255 ∷ [])) (0 ∷ 0 ∷ 0 ∷ 0 ∷ 0 ∷ 0 ∷ 0 ∷ []) ∷
    case₁ (distance_of (255 ∷ []) (0 ∷ [])) (0 ∷ 0 ∷ 0 ∷ 0 ∷ 0 ∷ 0 ∷ 0 ∷ []) ∷
    case₁ (distance_of (254 ∷ []) (255 ∷ [])) (0 ∷ 0 ∷ 0 ∷ 0 ∷ 0 ∷ 0 ∷ 0 ∷ []) ∷
    case₁ (distance_of (0 ∷ 3 ∷ 255 ∷ []) (255 ∷ 7 ∷ 9 ∷ [])) (0 ∷ 0 ∷ 0 ∷ 0 ∷ 16 ∷ 0 ∷ 0 ∷ []) ∷
    -- line, query 38: beam 2, k 2; beam 1; beam 0; beam 8, k 8
    case (line_search line 38 2 2) ((0 ∷ 2 ∷ []) ∷ (3 ∷ 2 ∷ []) ∷ (4 ∷ 64 ∷ []) ∷ []) ∷
    case (line_search line 38 1 2) ((0 ∷ 1 ∷ []) ∷ (0 ∷ []) ∷ (784 ∷ []) ∷ []) ∷
    case (line_search line 38 0 2) ((0 ∷ 1 ∷ []) ∷ (0 ∷ []) ∷ (784 ∷ []) ∷ []) ∷
    case (line_search line 38 8 8) ((0 ∷ 4 ∷ []) ∷ (3 ∷ 2 ∷ 1 ∷ 0 ∷ []) ∷ (4 ∷ 64 ∷ 324 ∷ 784 ∷ []) ∷ []) ∷
    -- line, query 25, beam 4, k 4 (as 3/13 gives it)
    case (line_search line 25 4 4) ((0 ∷ 4 ∷ []) ∷ (2 ∷ 1 ∷ 3 ∷ 0 ∷ []) ∷ (25 ∷ 25 ∷ 225 ∷ 225 ∷ []) ∷ []) ∷
    -- vectors 10, 20, 30, 25, query 25, beam 2, k 2: entry 3 at 0 is missed (as 3/13 gives it)
    case (line_search (10 ∷ 20 ∷ 30 ∷ 25 ∷ []) 25 2 2) ((0 ∷ 2 ∷ []) ∷ (2 ∷ 1 ∷ []) ∷ (25 ∷ 25 ∷ []) ∷ []) ∷
    -- line, a saturated query, beam 4, k 4: every entry at 0, the higher id first
    case (line_search line 255 4 4) ((0 ∷ 4 ∷ []) ∷ (3 ∷ 2 ∷ 1 ∷ 0 ∷ []) ∷ (0 ∷ 0 ∷ 0 ∷ 0 ∷ []) ∷ []) ∷
    -- pruning (0,0) with (20,0), (11,18), (0,30): alpha 1.0, alpha 1.2
    case₁ (pruned (0 ∷ 0 ∷ 20 ∷ 0 ∷ 11 ∷ 18 ∷ 0 ∷ 30 ∷ []) (1 ∷ 2 ∷ 3 ∷ []) 0x3F800000) (1 ∷ 3 ∷ []) ∷
    case₁ (pruned (0 ∷ 0 ∷ 20 ∷ 0 ∷ 11 ∷ 18 ∷ 0 ∷ 30 ∷ []) (1 ∷ 2 ∷ 3 ∷ []) 0x3F99999A) (1 ∷ 3 ∷ 2 ∷ []) ∷
    -- pruning (0,0) with (10,0), (5,9), alpha 1: the quotient is 1.0
    case₁ (pruned (0 ∷ 0 ∷ 10 ∷ 0 ∷ 5 ∷ 9 ∷ []) (1 ∷ 2 ∷ []) 0x3F800000) (1 ∷ 2 ∷ []) ∷
    -- pruning (0,0) with (10,0), (10,255), (0,30), alpha 1.2: the second lies at 0 of the first, and is shadowed
    case₁ (pruned (0 ∷ 0 ∷ 10 ∷ 0 ∷ 10 ∷ 255 ∷ 0 ∷ 30 ∷ []) (1 ∷ 2 ∷ 3 ∷ []) 0x3F99999A) (1 ∷ 3 ∷ []) ∷
    -- line, pivots 0, 3: scores and medoid
    case₁ (map (λ i. as_whole (score (between 1 line) (0 ∷ 3 ∷ []) i)) (0 ∷ 1 ∷ 2 ∷ 3 ∷ [])) (900 ∷ 500 ∷ 500 ∷ 900 ∷ []) ∷
    case₁ (fields (medoid_out (record { n = 4; dim = 1; vectors = line; pivots = 0 ∷ 3 ∷ [] }))) (0 ∷ 0 ∷ 1 ∷ 0 ∷ 0 ∷ 0 ∷ 0 ∷ []) ∷
    -- generator state 0: first draw below 100
    case₁ (fields (draw_out 100 0).answer) (0 ∷ 0 ∷ 0 ∷ 7 ∷ 0 ∷ 0 ∷ 0 ∷ []) ∷
    []

pub samples_right : map (λ s. s.got) samples ≡ map (λ s. s.want) samples
unfolding samples as_whole fields distance_of line line_rows line_call told line_search pruned to_unsigned opened
samples_right = refl

-- ---- the cases without P, computed too

-- a whole build of one entry, dim 1, degree 2
unfoldable pub lone : ℕ → List ℕ → ℕ → BuildCall
lone extra seeds alphaBits =
    record {
      n = 1;
      dim = 1;
      vectors = 9 ∷ [];
      params = record { degree = 2; beam = 4; alpha = of_bits binary32 alphaBits; extra = extra };
      start = 0;
      order = 0 ∷ [];
      seeds = seeds;
      opening = replicate 2 0xFFFFFFFF;
      wide = replicate 3 7;
      closed = replicate 2 7;
      words = replicate (build_words 1) 7;
      floats = replicate (build_floats 1) nought;
    }

unfoldable pub lone_number : ℕ → ℕ
lone_number alphaBits = build_number (lone 0 [] alphaBits)

-- n 1: extra seeds 1 is refusal 7, and nothing differs; extra seeds 0 gives one empty row. alpha 4.0 is accepted, the next float refused, infinity too, NaN not
unfoldable pub others : List Sample
others =
    case (shown (build_out (lone 1 (0 ∷ []) 0x3F800000))) ((7 ∷ []) ∷ (7 ∷ 7 ∷ 7 ∷ []) ∷ (7 ∷ 7 ∷ []) ∷ []) ∷
    case (shown (build_out (lone 0 [] 0x3F800000))) ((0 ∷ []) ∷ replicate 3 0xFFFFFFFF ∷ replicate 2 0xFFFFFFFF ∷ []) ∷
    case₁ (lone_number 0x40800000 ∷ lone_number 0x40800001 ∷ lone_number 0x7F800000 ∷ lone_number 0x7FC00000 ∷ []) (0 ∷ 5 ∷ 5 ∷ 0 ∷ []) ∷
    []

pub others_right : map (λ s. s.got) others ≡ map (λ s. s.want) others
unfolding others lone lone_number shown opened
others_right = refl
