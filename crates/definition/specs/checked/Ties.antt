-- 3/13. Equal distances: answers list the higher id first and the cut keeps it, while the beam keeps what 000 keeps.
use Rattle.std.specs.Prelude.{ℕ, List, [], ◌∷◌, map, ◌≡◌, refl, replicate}
use Rattle.std.specs.Float.Ieee.{to_unsigned}
use Rattle.definition.specs.Floats.{nought}
use Rattle.definition.specs.Refusals.{SearchCall, most_answers, search_words, search_floats}
use Rattle.definition.specs.Outcome.{search_out, exhaustive_out}
use Rattle.definition.specs.checked.Opened.{opened}
use Rattle.definition.specs.checked.Samples.{Sample, case, as_whole, fields, line, line_rows, line_call, line_search, told}
use Rattle.definition.specs.checked.Recalls.{near_call, told_near}

-- entry 0 leads to 1 and 2, and no other entry leads on
unfoldable pub from_first : List ℕ
from_first = 1 ∷ 2 ∷ replicate 6 0xFFFFFFFF

-- entries 0 and 1 are as far from 25, and 2 is there
unfoldable pub besides : List ℕ
besides = 20 ∷ 30 ∷ 25 ∷ 40 ∷ []

unfoldable pub tie_call : ℕ → SearchCall
tie_call beam =
    record {
      n = 4;
      dim = 1;
      vectors = besides;
      degree = 2;
      beam = beam;
      k = beam;
      start = 0;
      table = from_first;
      query = 25 ∷ [];
      words = replicate (search_words 4) 7;
      floats = replicate search_floats nought;
      ids = replicate (most_answers beam beam) 7;
      dists = replicate (most_answers beam beam) nought;
    }

unfoldable pub alike : List ℕ
alike = replicate 4 20

unfoldable pub ties : List Sample
ties =
    -- the line, query 25, beam 4: cut within the first run of equals, behind it, and within the second; k above the beam
    case (line_search line 25 4 1) ((0 ∷ 1 ∷ []) ∷ (2 ∷ []) ∷ (25 ∷ []) ∷ []) ∷
    case (line_search line 25 4 2) ((0 ∷ 2 ∷ []) ∷ (2 ∷ 1 ∷ []) ∷ (25 ∷ 25 ∷ []) ∷ []) ∷
    case (line_search line 25 4 3) ((0 ∷ 3 ∷ []) ∷ (2 ∷ 1 ∷ 3 ∷ []) ∷ (25 ∷ 25 ∷ 225 ∷ []) ∷ []) ∷
    case (line_search line 25 4 9) ((0 ∷ 4 ∷ []) ∷ (2 ∷ 1 ∷ 3 ∷ 0 ∷ []) ∷ (25 ∷ 25 ∷ 225 ∷ 225 ∷ []) ∷ []) ∷
    -- four equal vectors: one run, and its cut; a beam of 2 is full with entries 0 and 1, and an equal does not come in
    case (line_search alike 20 4 4) ((0 ∷ 4 ∷ []) ∷ (3 ∷ 2 ∷ 1 ∷ 0 ∷ []) ∷ (0 ∷ 0 ∷ 0 ∷ 0 ∷ []) ∷ []) ∷
    case (line_search alike 20 4 2) ((0 ∷ 2 ∷ []) ∷ (3 ∷ 2 ∷ []) ∷ (0 ∷ 0 ∷ []) ∷ []) ∷
    case (line_search alike 20 2 2) ((0 ∷ 2 ∷ []) ∷ (1 ∷ 0 ∷ []) ∷ (0 ∷ 0 ∷ []) ∷ []) ∷
    case (told_near (exhaustive_out (near_call alike (20 ∷ []) 2 2))) ((0 ∷ 2 ∷ 0 ∷ 0 ∷ 0 ∷ 0 ∷ 0 ∷ []) ∷ (3 ∷ 2 ∷ []) ∷ (0 ∷ 0 ∷ []) ∷ []) ∷
    -- a full beam of 2 that a nearer entry enters keeps, of two equals, the lower id, as 000 does; exhaustive search answers with the higher
    case (told (search_out (tie_call 2))) ((0 ∷ 2 ∷ []) ∷ (2 ∷ 0 ∷ []) ∷ (0 ∷ 25 ∷ []) ∷ []) ∷
    case (told (search_out (tie_call 3))) ((0 ∷ 3 ∷ []) ∷ (2 ∷ 1 ∷ 0 ∷ []) ∷ (0 ∷ 25 ∷ 25 ∷ []) ∷ []) ∷
    case (told_near (exhaustive_out (near_call besides (25 ∷ []) 2 2))) ((0 ∷ 2 ∷ 0 ∷ 0 ∷ 0 ∷ 0 ∷ 0 ∷ []) ∷ (2 ∷ 1 ∷ []) ∷ (0 ∷ 25 ∷ []) ∷ []) ∷
    []

pub ties_right : map (λ s. s.got) ties ≡ map (λ s. s.want) ties
unfolding ties from_first besides tie_call alike near_call told_near line_call line_search line line_rows told as_whole fields to_unsigned opened
ties_right = refl
