-- The program `seek`: from the bytes of standard input to the bytes that it prints. Only here is number 13, and it comes before all others.
use Rattle.std.specs.Prelude.{ℕ, zero, suc, ◌+◌, ◌-◌, ◌*◌, ◌/◌, ◌%◌, Bool, false, not, ◌&&◌, ◌||◌, cond, List, [], ◌∷◌, ◌++◌, map, leb, ltb, eqb, length, take, drop, get_or, replicate}
use Rattle.definition.specs.Lists.{each, joined}
use Rattle.definition.specs.Beam.{Item}
use Rattle.definition.specs.Tables.{pad}
use Rattle.definition.specs.Floats.{nought}
use Rattle.definition.specs.Refusals.{SearchCall, search_number, search_words, search_floats, most_answers, ◌when◌else◌}
use Rattle.definition.specs.Outcome.{found, by_number}

-- ---- reading: words are split by runs of spaces or newlines, which may also lead and trail

unfoldable pub splits : ℕ → Bool
splits b = eqb b 32 || eqb b 10

-- the word so far, then the rest: an empty word is none
unfoldable pub ended : List ℕ → List (List ℕ) → List (List ℕ)
ended [] ws = ws
ended (b ∷ bs) ws = (b ∷ bs) ∷ ws

unfoldable pub words_from : List ℕ → List ℕ → List (List ℕ)
words_from word [] = ended word []
words_from word (b ∷ bs) =
    let stop = ended word (words_from [] bs) in
    let on = words_from (word ++ (b ∷ [])) bs in
    cond (splits b) stop on

unfoldable pub is_digit : ℕ → Bool
is_digit b = leb 48 b && leb b 57

-- a decimal has one to five digits
unfoldable pub is_decimal : List ℕ → Bool
is_decimal w = ltb 0 (length w) && (leb (length w) 5 && each is_digit w)

unfoldable pub decimal_from : ℕ → List ℕ → ℕ
decimal_from v [] = v
decimal_from v (b ∷ bs) = decimal_from (v * 10 + (b - 48)) bs

-- what a word says: a decimal's value, padding for `-`, and `junk`, which no place admits, for anything else
unfoldable pub junk : ℕ
junk = 100000

unfoldable pub is_dash : List ℕ → Bool
is_dash [] = false
is_dash (b ∷ []) = eqb b 45
is_dash (b ∷ (c ∷ bs)) = false

unfoldable pub value : List ℕ → ℕ
value w = cond (is_decimal w) (decimal_from 0 w) (cond (is_dash w) pad junk)

unfoldable pub values : List ℕ → List ℕ
values text = map value (words_from [] text)

-- ---- the order: n dim degree start beam k, the vectors, the rows, the query

unfoldable pub is_number : ℕ → Bool
is_number v = ltb v 100000

unfoldable pub is_sample : ℕ → Bool
is_sample v = leb v 255

unfoldable pub is_row_word : ℕ → Bool
is_row_word v = is_number v || eqb v pad

unfoldable pub part_at : ℕ → ℕ → List ℕ → List ℕ
part_at from count vs = take count (drop from vs)

module _ (vs : List ℕ) where
  unfoldable pub the_n : ℕ
  the_n = get_or vs 0 0

  unfoldable pub the_dim : ℕ
  the_dim = get_or vs 1 0

  unfoldable pub the_degree : ℕ
  the_degree = get_or vs 2 0

  unfoldable pub the_vectors : List ℕ
  the_vectors = part_at 6 (the_n * the_dim) vs

  unfoldable pub the_rows : List ℕ
  the_rows = part_at (6 + the_n * the_dim) (the_n * the_degree) vs

  unfoldable pub the_query : List ℕ
  the_query = part_at (6 + the_n * the_dim + the_n * the_degree) the_dim vs

  unfoldable pub small_enough : Bool
  small_enough = leb the_dim 4096 && (leb (the_n * the_dim) 4096 && leb (the_n * the_degree) 4096)

  -- as many words as the first three ask for, within the limits; and each word what its place admits
  unfoldable pub shaped : Bool
  shaped =
      leb 6 (length vs) && (each is_number (take 6 vs) && (small_enough
      && eqb (length vs) (6 + the_n * the_dim + the_n * the_degree + the_dim)))

  unfoldable pub filled : Bool
  filled = each is_sample the_vectors && (each is_row_word the_rows && each is_sample the_query)

  unfoldable pub well_formed : Bool
  well_formed = shaped && filled

  -- the search, with room enough lent, so that 10 never holds
  unfoldable pub seek_call : SearchCall
  seek_call =
      record {
        n = the_n;
        dim = the_dim;
        vectors = the_vectors;
        degree = the_degree;
        beam = get_or vs 4 0;
        k = get_or vs 5 0;
        start = get_or vs 3 0;
        table = the_rows;
        query = the_query;
        words = replicate (search_words the_n) 0;
        floats = replicate search_floats nought;
        ids = replicate (most_answers (get_or vs 4 0) (get_or vs 5 0)) 0;
        dists = replicate (most_answers (get_or vs 4 0) (get_or vs 5 0)) nought;
      }

unfoldable pub most_input : ℕ
most_input = 65536

unfoldable pub malformed : List ℕ → Bool
malformed text = ltb most_input (length text) || not (well_formed (values text))

unfoldable pub seek_number : List ℕ → ℕ
seek_number text = 13 when malformed text else search_number (seek_call (values text))

-- ---- printing

-- a number's decimal digits, `fuel` at most
unfoldable pub digits : ℕ → ℕ → List ℕ
digits zero v = []
digits (suc fuel) v = let front = digits fuel (v / 10) in cond (ltb v 10) [] front ++ ((48 + v % 10) ∷ [])

unfoldable pub decimal : ℕ → List ℕ
decimal v = digits 20 v

-- `refused N`, and a newline
unfoldable pub print_refused : ℕ → List ℕ
print_refused k = 114 ∷ 101 ∷ 102 ∷ 117 ∷ 115 ∷ 101 ∷ 100 ∷ 32 ∷ decimal k ++ (10 ∷ [])

-- a line of id and distance
unfoldable pub print_item : Item → List ℕ
print_item a = decimal a.id ++ (32 ∷ decimal a.dist) ++ (10 ∷ [])

unfoldable pub print_found : List Item → List ℕ
print_found as' = decimal (length as') ++ (10 ∷ []) ++ joined (map print_item as')

unfoldable pub seek : List ℕ → List ℕ
seek text = by_number (seek_number text) (print_refused (seek_number text)) (print_found (found (seek_call (values text))))
