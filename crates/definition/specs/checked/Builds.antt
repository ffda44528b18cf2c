-- Whole builds with their draws, medoids and searches; the values are those that 000 gives for the same draws. Between them: rows that overflow the slack and
-- are pruned, rows that closing prunes, beam 0, many equal distances, alpha 1.2 and 2.0, and (fourteen) a batch in which a row already rewritten would be
-- noticed.
use Rattle.std.specs.Prelude.{ℕ, zero, suc, ◌*◌, List, [], ◌∷◌, ◌++◌, ◌≡◌, refl, replicate}
use Rattle.std.specs.Float.{binary32}
use Rattle.std.specs.Float.Ieee.{of_bits}
use Rattle.definition.specs.declared.Params.{Params}
use Rattle.definition.specs.Metric.{between, from_query}
use Rattle.definition.specs.Tables.{pad, row}
use Rattle.definition.specs.Beam.{Item}
use Rattle.definition.specs.Floats.{nought}
use Rattle.definition.specs.Slack.{slack}
use Rattle.definition.specs.Medoid.{medoid}
use Rattle.definition.specs.Search.{answers}
use Rattle.definition.specs.Draws.{Drawn, rows_drawn, order_drawn, pivots_drawn, seeds_drawn}
use Rattle.definition.specs.Refusals.{BuildCall, build_words, build_floats}
use Rattle.definition.specs.Outcome.{BuildOut, build_out}
use Rattle.definition.specs.checked.Opened.{opened}

unfoldable pub build_call : ℕ → ℕ → List ℕ → Params → ℕ → List ℕ → List ℕ → List ℕ → BuildCall
build_call n dim vectors params start order seeds opening =
    record {
      n = n;
      dim = dim;
      vectors = vectors;
      params = params;
      start = start;
      order = order;
      seeds = seeds;
      opening = opening;
      wide = replicate (n * slack params.degree) 7;
      closed = replicate (n * params.degree) 7;
      words = replicate (build_words n) 7;
      floats = replicate (build_floats n) nought;
    }

unfoldable pub shown : BuildOut → List (List ℕ)
shown o = (o.answer.number ∷ []) ∷ o.wide ∷ o.closed ∷ []

unfoldable pub pairs : List Item → List ℕ
pairs [] = []
pairs (a ∷ as') = a.id ∷ a.dist ∷ pairs as'

-- k groups of seeds, one after another
unfoldable pub many_seeds : ℕ → ℕ → ℕ → ℕ → ℕ → Drawn
many_seeds n start extra zero s = record { words = []; state = s }
many_seeds n start extra (suc k) s =
    let g = seeds_drawn n start extra s in
    let r = many_seeds n start extra k g.state in
    record { words = g.words ++ r.words; state = r.state }

-- rows, order, pivots and seeds from one generator; and its last state
unfoldable pub drawn_for : ℕ → ℕ → ℕ → ℕ → ℕ → List (List ℕ)
unfolding many_seeds
drawn_for n degree extra start s =
    let r = rows_drawn n degree s in
    let o = order_drawn n r.state in
    let p = pivots_drawn n o.state in
    let g = many_seeds n start extra n p.state in
    r.words ∷ o.words ∷ p.words ∷ g.words ∷ (g.state ∷ []) ∷ []

-- n = 12, dim = 2, degree = 3, beam = 4, alpha bits 0x3F99999A, extra seeds 1
unfoldable pub twelve_vectors : List ℕ
twelve_vectors =
    130 ∷ 183 ∷ 14 ∷ 238 ∷ 127 ∷ 26 ∷ 80 ∷ 57 ∷ 190 ∷ 240 ∷ 126 ∷ 194 ∷ 52 ∷ 127 ∷ 6 ∷ 110 ∷ 208 ∷ 143 ∷ 93 ∷ 199 ∷
    81 ∷ 36 ∷ 71 ∷ 227 ∷ []

-- what is drawn: rows, order, pivots and seeds
unfoldable pub twelve_opening : List ℕ
twelve_opening =
    9 ∷ 10 ∷ 11 ∷ 3 ∷ 4 ∷ 5 ∷ 0 ∷ 1 ∷ 3 ∷ 7 ∷ 8 ∷ 9 ∷ 9 ∷ 10 ∷ 11 ∷ 8 ∷ 9 ∷ 10 ∷ 11 ∷ 0 ∷ 1 ∷ 5 ∷ 6 ∷ 8 ∷ 11 ∷ 0 ∷ 1 ∷
    0 ∷ 1 ∷ 2 ∷ 1 ∷ 2 ∷ 3 ∷ 2 ∷ 3 ∷ 4 ∷ []

unfoldable pub twelve_order : List ℕ
twelve_order = 4 ∷ 7 ∷ 3 ∷ 10 ∷ 9 ∷ 1 ∷ 6 ∷ 0 ∷ 11 ∷ 5 ∷ 2 ∷ 8 ∷ []

unfoldable pub twelve_pivots : List ℕ
twelve_pivots = 4 ∷ 11 ∷ 1 ∷ 2 ∷ 6 ∷ 6 ∷ 0 ∷ 2 ∷ []

unfoldable pub twelve_seeds : List ℕ
twelve_seeds = 11 ∷ 11 ∷ 1 ∷ 1 ∷ 4 ∷ 2 ∷ 8 ∷ 1 ∷ 1 ∷ 9 ∷ 1 ∷ 1 ∷ []

-- what is built: the wide rows, and the closed ones
unfoldable pub twelve_wide : List ℕ
twelve_wide =
    5 ∷ 8 ∷ 3 ∷ pad ∷ 7 ∷ 11 ∷ pad ∷ pad ∷ 8 ∷ 10 ∷ pad ∷ pad ∷ 10 ∷ 6 ∷ 8 ∷ pad ∷ 0 ∷ 5 ∷ 10 ∷ pad ∷ 0 ∷ 4 ∷ 9 ∷ pad ∷
    3 ∷ 7 ∷ 9 ∷ pad ∷ 1 ∷ 6 ∷ pad ∷ pad ∷ 0 ∷ 2 ∷ 3 ∷ pad ∷ 5 ∷ 11 ∷ 6 ∷ pad ∷ 2 ∷ 3 ∷ 4 ∷ pad ∷ 1 ∷ 9 ∷ pad ∷ pad ∷ []

unfoldable pub twelve_closed : List ℕ
twelve_closed =
    5 ∷ 8 ∷ 3 ∷ 7 ∷ 11 ∷ pad ∷ 8 ∷ 10 ∷ pad ∷ 10 ∷ 6 ∷ 8 ∷ 0 ∷ 5 ∷ 10 ∷ 0 ∷ 4 ∷ 9 ∷ 3 ∷ 7 ∷ 9 ∷ 1 ∷ 6 ∷ pad ∷ 0 ∷ 2 ∷ 3 ∷
    5 ∷ 11 ∷ 6 ∷ 2 ∷ 3 ∷ 4 ∷ 1 ∷ 9 ∷ pad ∷ []

unfoldable pub twelve_call : BuildCall
twelve_call =
    build_call 12 2 twelve_vectors (record { degree = 3; beam = 4; alpha = of_bits binary32 0x3F99999A; extra = 1 }) 0
    twelve_order twelve_seeds twelve_opening

pub twelve_drawn : drawn_for 12 3 1 0 5 ≡ twelve_opening ∷ twelve_order ∷ twelve_pivots ∷ twelve_seeds ∷ (1784139980932280426 ∷ []) ∷ []
unfolding drawn_for twelve_opening twelve_order twelve_pivots twelve_seeds opened
twelve_drawn = refl

pub twelve_medoid : medoid (between 2 twelve_vectors) twelve_pivots 12 ≡ 0
unfolding twelve_vectors twelve_pivots opened
twelve_medoid = refl

pub twelve_built : shown (build_out twelve_call) ≡ (0 ∷ []) ∷ twelve_wide ∷ twelve_closed ∷ []
unfolding shown build_call twelve_vectors twelve_order twelve_seeds twelve_opening twelve_call twelve_wide twelve_closed opened
twelve_built = refl

pub twelve_search0 : pairs (answers (from_query 2 twelve_vectors (64 ∷ 67 ∷ [])) (row 3 twelve_closed) 12 4 0 4)
    ≡ 3 ∷ 356 ∷ 10 ∷ 1250 ∷ 6 ∷ 3744 ∷ 7 ∷ 5213 ∷ []
unfolding pairs twelve_vectors twelve_closed opened
twelve_search0 = refl

pub twelve_search1 : pairs (answers (from_query 2 twelve_vectors (0 ∷ 2 ∷ [])) (row 3 twelve_closed) 12 4 0 4)
    ≡ 10 ∷ 7717 ∷ 3 ∷ 9425 ∷ 2 ∷ 16705 ∷ 6 ∷ 18329 ∷ []
unfolding pairs twelve_vectors twelve_closed opened
twelve_search1 = refl

-- n = 10, dim = 1, degree = 2, beam = 0, alpha bits 0x3F99999A, extra seeds 1
unfoldable pub ten_vectors : List ℕ
ten_vectors = 102 ∷ 103 ∷ 101 ∷ 103 ∷ 110 ∷ 110 ∷ 100 ∷ 101 ∷ 110 ∷ 110 ∷ []

-- what is drawn: rows, order, pivots and seeds
unfoldable pub ten_opening : List ℕ
ten_opening = 2 ∷ 3 ∷ 6 ∷ 7 ∷ 0 ∷ 1 ∷ 6 ∷ 7 ∷ 2 ∷ 3 ∷ 7 ∷ 8 ∷ 5 ∷ 7 ∷ 3 ∷ 4 ∷ 4 ∷ 5 ∷ 8 ∷ 0 ∷ []

unfoldable pub ten_order : List ℕ
ten_order = 0 ∷ 4 ∷ 1 ∷ 7 ∷ 6 ∷ 5 ∷ 2 ∷ 8 ∷ 9 ∷ 3 ∷ []

unfoldable pub ten_pivots : List ℕ
ten_pivots = 1 ∷ 7 ∷ 1 ∷ 9 ∷ 7 ∷ 8 ∷ 4 ∷ 6 ∷ []

unfoldable pub ten_seeds : List ℕ
ten_seeds = 2 ∷ 4 ∷ 3 ∷ 2 ∷ 5 ∷ 6 ∷ 3 ∷ 8 ∷ 8 ∷ 3 ∷ []

-- what is built: the wide rows, and the closed ones
unfoldable pub ten_wide : List ℕ
ten_wide =
    1 ∷ 2 ∷ 7 ∷ 3 ∷ 0 ∷ pad ∷ 0 ∷ 7 ∷ pad ∷ 1 ∷ 7 ∷ pad ∷ 1 ∷ 8 ∷ 9 ∷ 1 ∷ 8 ∷ pad ∷ 7 ∷ pad ∷ pad ∷ 2 ∷ 0 ∷ pad ∷
    1 ∷ 4 ∷ 5 ∷ 1 ∷ 4 ∷ pad ∷ []

unfoldable pub ten_closed : List ℕ
ten_closed = 1 ∷ 2 ∷ 3 ∷ 0 ∷ 0 ∷ 7 ∷ 1 ∷ 7 ∷ 8 ∷ 1 ∷ 1 ∷ 8 ∷ 7 ∷ pad ∷ 2 ∷ 0 ∷ 4 ∷ 1 ∷ 1 ∷ 4 ∷ []

unfoldable pub ten_call : BuildCall
ten_call =
    build_call 10 1 ten_vectors (record { degree = 2; beam = 0; alpha = of_bits binary32 0x3F99999A; extra = 1 }) 1
    ten_order ten_seeds ten_opening

pub ten-drawn : drawn_for 10 2 1 1 6 ≡ ten_opening ∷ ten_order ∷ ten_pivots ∷ ten_seeds ∷ (6167381459204646657 ∷ []) ∷ []
unfolding drawn_for ten_opening ten_order ten_pivots ten_seeds opened
ten-drawn = refl

pub ten-medoid : medoid (between 1 ten_vectors) ten_pivots 10 ≡ 1
unfolding ten_vectors ten_pivots opened
ten-medoid = refl

pub ten-built : shown (build_out ten_call) ≡ (0 ∷ []) ∷ ten_wide ∷ ten_closed ∷ []
unfolding shown build_call ten_vectors ten_order ten_seeds ten_opening ten_call ten_wide ten_closed opened
ten-built = refl

pub ten_search0 : pairs (answers (from_query 1 ten_vectors (102 ∷ [])) (row 2 ten_closed) 10 3 1 3)
    ≡ 0 ∷ 0 ∷ 3 ∷ 1 ∷ 1 ∷ 1 ∷ []
unfolding pairs ten_vectors ten_closed opened
ten_search0 = refl

pub ten_search1 : pairs (answers (from_query 1 ten_vectors (100 ∷ [])) (row 2 ten_closed) 10 3 1 3)
    ≡ 7 ∷ 1 ∷ 2 ∷ 1 ∷ 0 ∷ 4 ∷ []
unfolding pairs ten_vectors ten_closed opened
ten_search1 = refl

-- n = 13, dim = 2, degree = 5, beam = 6, alpha bits 0x40000000, extra seeds 3
unfoldable pub thirteen_vectors : List ℕ
thirteen_vectors =
    102 ∷ 101 ∷ 103 ∷ 101 ∷ 103 ∷ 110 ∷ 103 ∷ 100 ∷ 110 ∷ 100 ∷ 101 ∷ 101 ∷ 101 ∷ 102 ∷ 110 ∷ 102 ∷ 101 ∷ 102 ∷
    110 ∷ 103 ∷ 103 ∷ 103 ∷ 100 ∷ 110 ∷ 102 ∷ 110 ∷ []

-- what is drawn: rows, order, pivots and seeds
unfoldable pub thirteen_opening : List ℕ
thirteen_opening =
    7 ∷ 8 ∷ 9 ∷ 10 ∷ 11 ∷ 4 ∷ 5 ∷ 6 ∷ 7 ∷ 8 ∷ 3 ∷ 4 ∷ 5 ∷ 6 ∷ 7 ∷ 6 ∷ 7 ∷ 8 ∷ 9 ∷ 10 ∷ 11 ∷ 12 ∷ 0 ∷ 1 ∷ 2 ∷
    4 ∷ 6 ∷ 7 ∷ 8 ∷ 9 ∷ 3 ∷ 4 ∷ 5 ∷ 7 ∷ 8 ∷ 0 ∷ 1 ∷ 2 ∷ 3 ∷ 4 ∷ 9 ∷ 10 ∷ 11 ∷ 12 ∷ 0 ∷ 8 ∷ 10 ∷ 11 ∷ 12 ∷ 0 ∷
    7 ∷ 8 ∷ 9 ∷ 11 ∷ 12 ∷ 12 ∷ 0 ∷ 1 ∷ 2 ∷ 3 ∷ 4 ∷ 5 ∷ 6 ∷ 7 ∷ 8 ∷ []

unfoldable pub thirteen_order : List ℕ
thirteen_order = 4 ∷ 5 ∷ 1 ∷ 9 ∷ 0 ∷ 12 ∷ 10 ∷ 11 ∷ 8 ∷ 6 ∷ 7 ∷ 2 ∷ 3 ∷ []

unfoldable pub thirteen_pivots : List ℕ
thirteen_pivots = 10 ∷ 4 ∷ 8 ∷ 12 ∷ 6 ∷ 2 ∷ 12 ∷ 3 ∷ []

unfoldable pub thirteen_seeds : List ℕ
thirteen_seeds =
    11 ∷ 4 ∷ 12 ∷ 9 ∷ 12 ∷ 7 ∷ 11 ∷ 6 ∷ 12 ∷ 12 ∷ 5 ∷ 2 ∷ 11 ∷ 9 ∷ 1 ∷ 8 ∷ 9 ∷ 5 ∷ 12 ∷ 8 ∷ 4 ∷ 11 ∷ 7 ∷ 12 ∷
    11 ∷ 6 ∷ 7 ∷ 9 ∷ 12 ∷ 3 ∷ 3 ∷ 4 ∷ 0 ∷ 4 ∷ 5 ∷ 8 ∷ 2 ∷ 7 ∷ 4 ∷ []

-- what is built: the wide rows, and the closed ones
unfoldable pub thirteen_wide : List ℕ
thirteen_wide =
    1 ∷ 3 ∷ 4 ∷ 5 ∷ 10 ∷ 12 ∷ pad ∷ 0 ∷ 3 ∷ 4 ∷ 6 ∷ 7 ∷ 8 ∷ 10 ∷ 3 ∷ 4 ∷ 7 ∷ 9 ∷ 10 ∷ 12 ∷ pad ∷
    0 ∷ 1 ∷ 2 ∷ 4 ∷ 5 ∷ pad ∷ pad ∷ 0 ∷ 1 ∷ 2 ∷ 3 ∷ 5 ∷ 7 ∷ pad ∷ 0 ∷ 3 ∷ 4 ∷ 6 ∷ 8 ∷ 10 ∷ 11 ∷
    1 ∷ 5 ∷ 8 ∷ 10 ∷ 11 ∷ 12 ∷ pad ∷ 1 ∷ 2 ∷ 4 ∷ 9 ∷ pad ∷ pad ∷ pad ∷ 1 ∷ 5 ∷ 6 ∷ 10 ∷ 11 ∷ pad ∷ pad ∷
    2 ∷ 7 ∷ 10 ∷ pad ∷ pad ∷ pad ∷ pad ∷ 1 ∷ 6 ∷ 2 ∷ 9 ∷ pad ∷ pad ∷ pad ∷ 5 ∷ 6 ∷ 8 ∷ 10 ∷ 12 ∷ pad ∷ pad ∷
    0 ∷ 2 ∷ 6 ∷ 10 ∷ 11 ∷ pad ∷ pad ∷ []

unfoldable pub thirteen_closed : List ℕ
thirteen_closed =
    1 ∷ 5 ∷ 12 ∷ 10 ∷ 4 ∷ 0 ∷ 3 ∷ 10 ∷ 7 ∷ 4 ∷ 12 ∷ 10 ∷ 9 ∷ pad ∷ pad ∷ 0 ∷ 1 ∷ 2 ∷ 4 ∷ 5 ∷ 7 ∷ 3 ∷ 2 ∷ pad ∷ pad ∷
    0 ∷ 6 ∷ 4 ∷ 11 ∷ 10 ∷ 8 ∷ 5 ∷ 10 ∷ 11 ∷ 1 ∷ 1 ∷ 2 ∷ 4 ∷ 9 ∷ pad ∷ 1 ∷ 5 ∷ 6 ∷ 10 ∷ 11 ∷ 2 ∷ 7 ∷ 10 ∷ pad ∷ pad ∷
    1 ∷ 6 ∷ 2 ∷ 9 ∷ pad ∷ 5 ∷ 6 ∷ 8 ∷ 10 ∷ 12 ∷ 0 ∷ 2 ∷ 6 ∷ 10 ∷ 11 ∷ []

unfoldable pub thirteen_call : BuildCall
thirteen_call =
    build_call 13 2 thirteen_vectors (record { degree = 5; beam = 6; alpha = of_bits binary32 0x40000000; extra = 3 }) 10
    thirteen_order thirteen_seeds thirteen_opening

pub thirteen_drawn : drawn_for 13 5 3 10 10 ≡ thirteen_opening ∷ thirteen_order ∷ thirteen_pivots ∷ thirteen_seeds ∷ (6555319476050480434 ∷ []) ∷ []
unfolding drawn_for thirteen_opening thirteen_order thirteen_pivots thirteen_seeds opened
thirteen_drawn = refl

pub thirteen_medoid : medoid (between 2 thirteen_vectors) thirteen_pivots 13 ≡ 10
unfolding thirteen_vectors thirteen_pivots opened
thirteen_medoid = refl

pub thirteen_built : shown (build_out thirteen_call) ≡ (0 ∷ []) ∷ thirteen_wide ∷ thirteen_closed ∷ []
unfolding shown build_call thirteen_vectors thirteen_order thirteen_seeds thirteen_opening thirteen_call thirteen_wide thirteen_closed opened
thirteen_built = refl

pub thirteen_search0 : pairs (answers (from_query 2 thirteen_vectors (101 ∷ 101 ∷ [])) (row 5 thirteen_closed) 13 6 10 6)
    ≡ 5 ∷ 0 ∷ 8 ∷ 1 ∷ 6 ∷ 1 ∷ 0 ∷ 1 ∷ 1 ∷ 4 ∷ 3 ∷ 5 ∷ []
unfolding pairs thirteen_vectors thirteen_closed opened
thirteen_search0 = refl

pub thirteen_search1 : pairs (answers (from_query 2 thirteen_vectors (103 ∷ 101 ∷ [])) (row 5 thirteen_closed) 13 6 10 6)
    ≡ 1 ∷ 0 ∷ 3 ∷ 1 ∷ 0 ∷ 1 ∷ 10 ∷ 4 ∷ 5 ∷ 4 ∷ 6 ∷ 5 ∷ []
unfolding pairs thirteen_vectors thirteen_closed opened
thirteen_search1 = refl

-- n = 14, dim = 2, degree = 2, beam = 2, alpha bits 0x3F99999A, extra seeds 1
unfoldable pub fourteen_vectors : List ℕ
fourteen_vectors =
    68 ∷ 32 ∷ 130 ∷ 60 ∷ 253 ∷ 230 ∷ 241 ∷ 194 ∷ 107 ∷ 48 ∷ 249 ∷ 14 ∷ 199 ∷ 221 ∷ 1 ∷ 228 ∷ 136 ∷ 117 ∷ 52 ∷ 162 ∷
    15 ∷ 11 ∷ 13 ∷ 4 ∷ 195 ∷ 110 ∷ 216 ∷ 14 ∷ []

-- what is drawn: rows, order, pivots and seeds
unfoldable pub fourteen_opening : List ℕ
fourteen_opening =
    6 ∷ 7 ∷ 8 ∷ 9 ∷ 11 ∷ 12 ∷ 8 ∷ 9 ∷ 1 ∷ 2 ∷ 12 ∷ 13 ∷ 0 ∷ 1 ∷ 8 ∷ 9 ∷ 5 ∷ 6 ∷ 12 ∷ 13 ∷ 6 ∷ 7 ∷ 4 ∷ 5 ∷ 9 ∷ 10 ∷
    4 ∷ 5 ∷ []

unfoldable pub fourteen_order : List ℕ
fourteen_order = 0 ∷ 4 ∷ 2 ∷ 8 ∷ 11 ∷ 13 ∷ 7 ∷ 12 ∷ 1 ∷ 10 ∷ 6 ∷ 5 ∷ 9 ∷ 3 ∷ []

unfoldable pub fourteen_pivots : List ℕ
fourteen_pivots = 0 ∷ 13 ∷ 12 ∷ 3 ∷ 8 ∷ 4 ∷ 7 ∷ 7 ∷ []

unfoldable pub fourteen_seeds : List ℕ
fourteen_seeds = 3 ∷ 11 ∷ 2 ∷ 0 ∷ 4 ∷ 3 ∷ 9 ∷ 13 ∷ 5 ∷ 9 ∷ 4 ∷ 2 ∷ 7 ∷ 0 ∷ []

-- what is built: the wide rows, and the closed ones
unfoldable pub fourteen_wide : List ℕ
fourteen_wide =
    8 ∷ pad ∷ pad ∷ 4 ∷ 8 ∷ pad ∷ 5 ∷ 6 ∷ pad ∷ 1 ∷ 6 ∷ pad ∷ 1 ∷ 11 ∷ pad ∷ 2 ∷ 13 ∷ pad ∷ 3 ∷ 8 ∷ pad ∷ 9 ∷ pad ∷ pad ∷
    1 ∷ 12 ∷ pad ∷ 7 ∷ 8 ∷ 10 ∷ 9 ∷ 13 ∷ pad ∷ 4 ∷ pad ∷ pad ∷ 6 ∷ 8 ∷ 13 ∷ 5 ∷ 1 ∷ pad ∷ []

unfoldable pub fourteen_closed : List ℕ
fourteen_closed =
    8 ∷ pad ∷ 4 ∷ 8 ∷ 5 ∷ 6 ∷ 1 ∷ 6 ∷ 1 ∷ 11 ∷ 2 ∷ 13 ∷ 3 ∷ 8 ∷ 9 ∷ pad ∷ 1 ∷ 12 ∷ 7 ∷ 8 ∷ 9 ∷ 13 ∷ 4 ∷ pad ∷ 8 ∷ 13 ∷
    5 ∷ 1 ∷ []

unfoldable pub fourteen_call : BuildCall
fourteen_call =
    build_call 14 2 fourteen_vectors (record { degree = 2; beam = 2; alpha = of_bits binary32 0x3F99999A; extra = 1 }) 8
    fourteen_order fourteen_seeds fourteen_opening

pub fourteen_drawn : drawn_for 14 2 1 8 1 ≡ fourteen_opening ∷ fourteen_order ∷ fourteen_pivots ∷ fourteen_seeds ∷ (244006229642219628 ∷ []) ∷ []
unfolding drawn_for fourteen_opening fourteen_order fourteen_pivots fourteen_seeds opened
fourteen_drawn = refl

pub fourteen_medoid : medoid (between 2 fourteen_vectors) fourteen_pivots 14 ≡ 8
unfolding fourteen_vectors fourteen_pivots opened
fourteen_medoid = refl

pub fourteen_built : shown (build_out fourteen_call) ≡ (0 ∷ []) ∷ fourteen_wide ∷ fourteen_closed ∷ []
unfolding shown build_call fourteen_vectors fourteen_order fourteen_seeds fourteen_opening fourteen_call fourteen_wide fourteen_closed opened
fourteen_built = refl

pub fourteen_search0 : pairs (answers (from_query 2 fourteen_vectors (113 ∷ 224 ∷ [])) (row 2 fourteen_closed) 14 4 8 4)
    ≡ 8 ∷ 11978 ∷ 12 ∷ 19720 ∷ 1 ∷ 27185 ∷ 4 ∷ 31012 ∷ []
unfolding pairs fourteen_vectors fourteen_closed opened
fourteen_search0 = refl
