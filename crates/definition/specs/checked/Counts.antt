-- The two counts of a search and its room, which document 01 has otherwise or not at all (10/13), on the line and on the case that misses entry 3.
use Rattle.std.specs.Prelude.{ℕ, List, [], ◌∷◌, ◌++◌, map, ◌≡◌, refl, replicate}
use Rattle.std.specs.Float.Ieee.{to_unsigned}
use Rattle.definition.specs.Floats.{nought}
use Rattle.definition.specs.Refusals.{SearchCall}
use Rattle.definition.specs.Outcome.{search_out, lookup_out, records_out}
use Rattle.definition.specs.checked.Opened.{opened}
use Rattle.definition.specs.checked.Samples.{Sample, case₁, as_whole, fields, line, line_rows, line_call}
use Rattle.definition.specs.checked.Lookups.{stray_rows, table_call, enough}

unfoldable pub line_counts : ℕ → ℕ → List ℕ
line_counts beam k = fields (search_out (line_call line 38 beam k)).answer

-- the line's search for 38 with beam 2 and k 2, by the sizes of its scratch
unfoldable pub room_call : ℕ → ℕ → SearchCall
room_call words floats =
    record {
      n = 4;
      dim = 1;
      vectors = line;
      degree = 2;
      beam = 2;
      k = 2;
      start = 0;
      table = line_rows;
      query = 38 ∷ [];
      words = replicate words 7;
      floats = replicate floats nought;
      ids = 7 ∷ 7 ∷ [];
      dists = nought ∷ nought ∷ [];
    }

unfoldable pub room_number : ℕ → ℕ → ℕ
room_number words floats = (search_out (room_call words floats)).answer.number

unfoldable pub counts : List Sample
counts =
    -- the line, query 38: with beam 2 each entry is expanded and measured, whatever k is; with beam 1, and 0, the start is measured and nothing expanded
    case₁ (line_counts 2 2) (0 ∷ 2 ∷ 0 ∷ 0 ∷ 0 ∷ 4 ∷ 4 ∷ []) ∷
    case₁ (line_counts 2 0) (0 ∷ 0 ∷ 0 ∷ 0 ∷ 0 ∷ 4 ∷ 4 ∷ []) ∷
    case₁ (line_counts 1 2) (0 ∷ 1 ∷ 0 ∷ 0 ∷ 0 ∷ 0 ∷ 1 ∷ []) ∷
    case₁ (line_counts 0 2) (0 ∷ 1 ∷ 0 ∷ 0 ∷ 0 ∷ 0 ∷ 1 ∷ []) ∷
    -- the case that misses entry 3: entry 2 is measured and not expanded, entry 3 neither
    case₁ (fields (search_out (line_call (10 ∷ 20 ∷ 30 ∷ 25 ∷ []) 25 2 2)).answer) (0 ∷ 2 ∷ 0 ∷ 0 ∷ 0 ∷ 2 ∷ 3 ∷ []) ∷
    -- a lookup over stray words; over nothing else, where the start's row leads nowhere; and with a run of records
    case₁ (fields (lookup_out (table_call stray_rows enough)).answer) (0 ∷ 2 ∷ 0 ∷ 0 ∷ 0 ∷ 4 ∷ 4 ∷ []) ∷
    case₁ (fields (lookup_out (table_call (replicate 8 7) enough)).answer) (0 ∷ 1 ∷ 0 ∷ 0 ∷ 0 ∷ 1 ∷ 1 ∷ []) ∷
    case₁ (fields (records_out (table_call line_rows enough) (replicate 2 (record { id = 7; distance = nought }))).plain.answer)
    (0 ∷ 2 ∷ 0 ∷ 0 ∷ 0 ∷ 4 ∷ 4 ∷ []) ∷
    -- refused
    case₁ (fields (search_out (table_call stray_rows enough)).answer) (8 ∷ 0 ∷ 0 ∷ 0 ∷ 0 ∷ 0 ∷ 0 ∷ []) ∷
    case₁ (fields (search_out (room_call 515 512)).answer) (10 ∷ 0 ∷ 0 ∷ 0 ∷ 0 ∷ 0 ∷ 0 ∷ []) ∷
    -- n + 512 words and 512 floats are enough, and one fewer of either is not
    case₁ (room_number 516 512 ∷ room_number 515 512 ∷ room_number 516 511 ∷ []) (0 ∷ 10 ∷ 10 ∷ []) ∷
    []

pub counts_right : map (λ s. s.got) counts ≡ map (λ s. s.want) counts
unfolding counts line_counts room_call room_number line line_rows line_call stray_rows table_call enough as_whole fields to_unsigned opened
counts_right = refl

-- that much is left zero and the next word as it was; refused, every word as it was
pub room-left : (search_out (room_call 517 512)).words ∷ (search_out (room_call 515 512)).words ∷ []
    ≡ (replicate 516 0 ++ (7 ∷ [])) ∷ replicate 515 7 ∷ []
unfolding room_call line line_rows opened
room-left = refl
