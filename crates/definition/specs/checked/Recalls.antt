-- Exhaustive search and the report, in the manner of document 01's samples: the line, and the case that misses entry 3.
use Rattle.std.specs.Prelude.{ℕ, List, [], ◌∷◌, map, ◌≡◌, refl, replicate}
use Rattle.std.specs.Float.Ieee.{to_unsigned}
use Rattle.definition.specs.declared.Report.{Report}
use Rattle.definition.specs.Floats.{nought}
use Rattle.definition.specs.Refusals.{ExhaustiveCall, ReportCall, report_words, report_floats, exhaustive_number}
use Rattle.definition.specs.Outcome.{ExhaustiveOut, exhaustive_out, report_out}
use Rattle.definition.specs.checked.Opened.{opened}
use Rattle.definition.specs.checked.Samples.{Sample, case, case₁, as_whole, fields, line, line_rows}

-- ---- exhaustive search of the four entries, with outputs of `room` places

unfoldable pub near_call : List ℕ → List ℕ → ℕ → ℕ → ExhaustiveCall
near_call vectors query k room =
    record { n = 4; dim = 1; vectors = vectors; k = k; query = query; ids = replicate room 7; dists = replicate room nought }

-- the seven fields of the answer; then all words of the two outputs
unfoldable pub told_near : ExhaustiveOut → List (List ℕ)
told_near o = fields o.answer ∷ o.ids ∷ map as_whole o.dists ∷ []

unfoldable pub line_near : ℕ → ℕ → ℕ → List (List ℕ)
line_near query k room = told_near (exhaustive_out (near_call line (query ∷ []) k room))

unfoldable pub missed : List ℕ
missed = 10 ∷ 20 ∷ 30 ∷ 25 ∷ []

-- ---- the report of the four entries

unfoldable pub report_call : List ℕ → ℕ → ℕ → List ℕ → ReportCall
report_call vectors beam k queries =
    record {
      n = 4;
      dim = 1;
      vectors = vectors;
      degree = 2;
      beam = beam;
      k = k;
      start = 0;
      table = line_rows;
      queries = queries;
      words = replicate (report_words 4) 7;
      floats = replicate report_floats nought;
    }

-- number, queries, asked, found, whole
unfoldable pub counts : Report → List ℕ
counts r = r.number ∷ r.queries ∷ r.asked ∷ r.found ∷ r.whole ∷ []

unfoldable pub line_report : ℕ → ℕ → List ℕ → List ℕ
line_report beam k queries = counts (report_out (report_call line beam k queries)).report

unfoldable pub recalls : List Sample
recalls =
    -- the line, query 25 and query 38, k 2: of equal distances the higher id first; what lies beyond the answers is untouched
    case (line_near 25 2 3) ((0 ∷ 2 ∷ 0 ∷ 0 ∷ 0 ∷ 0 ∷ 0 ∷ []) ∷ (2 ∷ 1 ∷ 7 ∷ []) ∷ (25 ∷ 25 ∷ 0 ∷ []) ∷ []) ∷
    case (line_near 38 2 2) ((0 ∷ 2 ∷ 0 ∷ 0 ∷ 0 ∷ 0 ∷ 0 ∷ []) ∷ (3 ∷ 2 ∷ []) ∷ (4 ∷ 64 ∷ []) ∷ []) ∷
    -- k above n: all four; and of equals at the cut the higher id
    case (line_near 25 256 4) ((0 ∷ 4 ∷ 0 ∷ 0 ∷ 0 ∷ 0 ∷ 0 ∷ []) ∷ (2 ∷ 1 ∷ 3 ∷ 0 ∷ []) ∷ (25 ∷ 25 ∷ 225 ∷ 225 ∷ []) ∷ []) ∷
    case (line_near 25 1 1) ((0 ∷ 1 ∷ 0 ∷ 0 ∷ 0 ∷ 0 ∷ 0 ∷ []) ∷ (2 ∷ []) ∷ (25 ∷ []) ∷ []) ∷
    -- entry 3 at 0, which a search with beam 2 misses
    case (told_near (exhaustive_out (near_call missed (25 ∷ []) 2 2))) ((0 ∷ 2 ∷ 0 ∷ 0 ∷ 0 ∷ 0 ∷ 0 ∷ []) ∷ (3 ∷ 2 ∷ []) ∷ (0 ∷ 25 ∷ []) ∷ []) ∷
    -- refused, and nothing differs: 10 before 11 before 14; k 0 asks for no room
    case (line_near 25 2 1) ((10 ∷ 0 ∷ 0 ∷ 0 ∷ 0 ∷ 0 ∷ 0 ∷ []) ∷ (7 ∷ []) ∷ (0 ∷ []) ∷ []) ∷
    case₁ (map exhaustive_number (near_call line [] 257 3 ∷ near_call line [] 257 4 ∷ near_call line (25 ∷ []) 257 4 ∷ near_call line (25 ∷ []) 0 0 ∷ []))
    (10 ∷ 11 ∷ 14 ∷ 14 ∷ []) ∷
    -- the report of queries 25 and 38, k 2: with beam 1 only the start is found, which is not asked for; with beam 4 all
    case₁ (line_report 1 2 (25 ∷ 38 ∷ [])) (0 ∷ 2 ∷ 4 ∷ 0 ∷ 0 ∷ []) ∷
    case₁ (line_report 4 2 (25 ∷ 38 ∷ [])) (0 ∷ 2 ∷ 4 ∷ 4 ∷ 2 ∷ []) ∷
    -- k above n asks for n; a beam below k; no queries
    case₁ (line_report 8 9 (25 ∷ 38 ∷ [])) (0 ∷ 2 ∷ 8 ∷ 8 ∷ 2 ∷ []) ∷
    case₁ (line_report 2 4 (25 ∷ 38 ∷ [])) (0 ∷ 2 ∷ 8 ∷ 4 ∷ 0 ∷ []) ∷
    case₁ (line_report 4 2 []) (0 ∷ 0 ∷ 0 ∷ 0 ∷ 0 ∷ []) ∷
    -- the case that misses entry 3, beam 2, k 2: one of two is found
    case₁ (counts (report_out (report_call missed 2 2 (25 ∷ []))).report) (0 ∷ 1 ∷ 2 ∷ 1 ∷ 0 ∷ []) ∷
    -- refused: k 0, k 257, and 65,536 queries before k 0
    case₁ (line_report 4 0 (25 ∷ [])) (14 ∷ 0 ∷ 0 ∷ 0 ∷ 0 ∷ []) ∷
    case₁ (line_report 4 257 (25 ∷ [])) (14 ∷ 0 ∷ 0 ∷ 0 ∷ 0 ∷ []) ∷
    case₁ (line_report 4 0 (replicate 65536 25)) (11 ∷ 0 ∷ 0 ∷ 0 ∷ 0 ∷ []) ∷
    []

pub recalls_right : map (λ s. s.got) recalls ≡ map (λ s. s.want) recalls
unfolding recalls near_call told_near line_near missed report_call counts line_report line line_rows as_whole fields to_unsigned opened
recalls_right = refl

-- a report leaves its room zero, also where there are no queries; refused, as it was
pub room-left : (report_out (report_call line 4 2 [])).words ∷ (report_out (report_call line 4 0 [])).words ∷ []
    ≡ replicate (report_words 4) 0 ∷ replicate (report_words 4) 7 ∷ []
unfolding report_call line line_rows opened
room-left = refl
