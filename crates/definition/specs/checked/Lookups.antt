-- `lookup` and `fit`, which document 01 does not have, on its line and on the line with stray words: words that are neither padding nor an entry.
use Rattle.std.specs.Prelude.{ℕ, List, [], ◌∷◌, map, ◌≡◌, refl, replicate}
use Rattle.std.specs.Float.Ieee.{to_unsigned}
use Rattle.definition.specs.Floats.{nought}
use Rattle.definition.specs.Refusals.{SearchCall, most_answers, search_words, search_floats}
use Rattle.definition.specs.Outcome.{search_out, lookup_out, fit_out}
use Rattle.definition.specs.checked.Opened.{opened}
use Rattle.definition.specs.checked.Samples.{Sample, case, case₁, as_whole, fields, line, line_rows, told}

-- the rows of the line, with a stray word for each padding and in front of two ids. 4 is the least word that is no entry, 0xFFFFFFFE the greatest
unfoldable pub stray_rows : List ℕ
stray_rows = 0xFFFFFFFE ∷ 1 ∷ 0 ∷ 2 ∷ 4 ∷ 3 ∷ 2 ∷ 5 ∷ []

-- the line's search for 38 with beam 2 and k 2, by its table and the size of its scratch
unfoldable pub table_call : List ℕ → ℕ → SearchCall
table_call table size =
    record {
      n = 4;
      dim = 1;
      vectors = line;
      degree = 2;
      beam = 2;
      k = 2;
      start = 0;
      table = table;
      query = 38 ∷ [];
      words = replicate size 7;
      floats = replicate search_floats nought;
      ids = replicate (most_answers 2 2) 7;
      dists = replicate (most_answers 2 2) nought;
    }

unfoldable pub enough : ℕ
enough = search_words 4

unfoldable pub fits : ℕ → ℕ → List ℕ → List ℕ
fits n degree table = fields (fit_out (record { n = n; degree = degree; table = table }))

unfoldable pub lookups : List Sample
lookups =
    -- the line as it is: lookup and search
    case (told (lookup_out (table_call line_rows enough))) ((0 ∷ 2 ∷ []) ∷ (3 ∷ 2 ∷ []) ∷ (4 ∷ 64 ∷ []) ∷ []) ∷
    case (told (search_out (table_call line_rows enough))) ((0 ∷ 2 ∷ []) ∷ (3 ∷ 2 ∷ []) ∷ (4 ∷ 64 ∷ []) ∷ []) ∷
    -- with stray words: lookup passes them over and goes on, search refuses
    case (told (lookup_out (table_call stray_rows enough))) ((0 ∷ 2 ∷ []) ∷ (3 ∷ 2 ∷ []) ∷ (4 ∷ 64 ∷ []) ∷ []) ∷
    case (told (search_out (table_call stray_rows enough))) ((8 ∷ 0 ∷ []) ∷ [] ∷ [] ∷ []) ∷
    -- nothing but stray words: the start is all
    case (told (lookup_out (table_call (replicate 8 7) enough))) ((0 ∷ 1 ∷ []) ∷ (0 ∷ []) ∷ (784 ∷ []) ∷ []) ∷
    -- a word too few, also with too little scratch; too little scratch alone
    case₁ (fields (lookup_out (table_call (replicate 7 0) enough)).answer) (8 ∷ 0 ∷ 0 ∷ 0 ∷ 0 ∷ 0 ∷ 0 ∷ []) ∷
    case₁ (fields (lookup_out (table_call (replicate 7 0) 7)).answer) (8 ∷ 0 ∷ 0 ∷ 0 ∷ 0 ∷ 0 ∷ 0 ∷ []) ∷
    case₁ (fields (lookup_out (table_call stray_rows 7)).answer) (10 ∷ 0 ∷ 0 ∷ 0 ∷ 0 ∷ 0 ∷ 0 ∷ []) ∷
    -- fit: the line; with stray words; of another degree; no entries; no degree, whatever the table; a degree over 64; n over 65,536
    case₁ (fits 4 2 line_rows) (0 ∷ 0 ∷ 0 ∷ 0 ∷ 0 ∷ 0 ∷ 0 ∷ []) ∷
    case₁ (fits 4 2 stray_rows) (8 ∷ 0 ∷ 0 ∷ 0 ∷ 0 ∷ 0 ∷ 0 ∷ []) ∷
    case₁ (fits 4 3 line_rows) (8 ∷ 0 ∷ 0 ∷ 0 ∷ 0 ∷ 0 ∷ 0 ∷ []) ∷
    case₁ (fits 0 2 []) (2 ∷ 0 ∷ 0 ∷ 0 ∷ 0 ∷ 0 ∷ 0 ∷ []) ∷
    case₁ (fits 4 0 stray_rows) (3 ∷ 0 ∷ 0 ∷ 0 ∷ 0 ∷ 0 ∷ 0 ∷ []) ∷
    case₁ (fits 4 65 line_rows) (3 ∷ 0 ∷ 0 ∷ 0 ∷ 0 ∷ 0 ∷ 0 ∷ []) ∷
    case₁ (fits 65537 0 []) (2 ∷ 0 ∷ 0 ∷ 0 ∷ 0 ∷ 0 ∷ 0 ∷ []) ∷
    []

pub lookups_right : map (λ s. s.got) lookups ≡ map (λ s. s.want) lookups
unfolding lookups stray_rows table_call enough fits line line_rows told as_whole fields to_unsigned opened
lookups_right = refl
