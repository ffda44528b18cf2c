-- What a search has that is accepted: without a run of records, with one, and as a text of `seek`. A lookup is the search of its call as cleaned.
use Rattle.std.specs.Prelude.{ℕ, ◌+◌, ◌*◌, ◌≤◌, ◌<◌, max, ◌≡◌, Bool, true, false, ◌||◌, ltb, length}
use Rattle.std.proofs.Common.{ap, ltb-false, eqb-true}
use mathlib.Core.List.{List, Memᴰ as Mem}
use Rattle.std.proofs.lemmas.Bool.{not-false}
use Rattle.definition.specs.declared.Candidate.{Candidate}
use Rattle.definition.specs.Tables.{row, search_rule}
use Rattle.definition.specs.Metric.{from_query}
use Rattle.definition.specs.Beam.{Item}
use Rattle.definition.specs.Search.{searched, answers}
use Rattle.definition.specs.Refusals.{SearchCall, short, search_words, search_floats, most_answers, search_short, search_number_at, search_number, records_number}
use Rattle.definition.specs.Outcome.{found, cleaned_call}
use Rattle.definition.specs.Seek.{values, malformed, seek_call, seek_number}
use Rattle.laws.specs.Truth.{or_neither}
use Rattle.laws.specs.Tables.{row-mem}
use Rattle.laws.specs.Words.{Searchable}
use Rattle.laws.specs.Cleaned.{cleaned-same}
use Rattle.theory.specs.Rule.{search_rule-mem, search_rule_searchable}
use Rattle.theory.specs.search.Ground.{Ground}
use Rattle.theory.specs.search.Ranked.{ranked_own}
use Rattle.accepted.specs.Chain.{passed}
use Rattle.accepted.specs.Checks.{dim_good, vectors_good, degree_good, beam_good, start_good, searched_good}

-- `ruled` and `rows` say the search rule, as the test and word by word
pub record SearchAccepted (c : SearchCall) : Type 0 where
  pub dim_some : 1 ≤ c.dim
  pub dim_few : c.dim ≤ 256
  pub nodes_some : 1 ≤ c.n
  pub nodes : c.n ≤ 65536
  pub vectors_are : length c.vectors ≡ c.n * c.dim
  pub degree_some : 1 ≤ c.degree
  pub degree_few : c.degree ≤ 64
  pub beam_few : c.beam ≤ 256
  pub start_in : c.start < c.n
  pub table_is : length c.table ≡ c.n * c.degree
  pub ruled : search_rule c.n c.table ≡ true
  pub rows : Searchable c.n c.table
  pub word_room : c.n + 512 ≤ length c.words
  pub float_room : 512 ≤ length c.floats
  pub id_room : most_answers c.beam c.k ≤ length c.ids
  pub dist_room : most_answers c.beam c.k ≤ length c.dists
  pub query_is : length c.query ≡ c.dim

-- check 10, of the scratch and the two outputs
record SearchRoom (c : SearchCall) : Type 0 where
  words : c.n + 512 ≤ length c.words
  floats : 512 ≤ length c.floats
  ids : most_answers c.beam c.k ≤ length c.ids
  dists : most_answers c.beam c.k ≤ length c.dists

search_room : (c : SearchCall) → search_short c ≡ false → SearchRoom c
unfolding search_short short search_words search_floats
search_room c e =
    let p = or_neither (ltb (length c.words) (c.n + 512)) _ e in
    let q = or_neither (ltb (length c.floats) 512) _ p.1 in
    let r = or_neither (ltb (length c.ids) (most_answers c.beam c.k)) _ q.1 in
    record { words = ltb-false _ _ p.0; floats = ltb-false _ _ q.0; ids = ltb-false _ _ r.0; dists = ltb-false _ _ r.1 }

-- where check 10 answers `tooShort`, which is so wherever the search alone lends too little
number-accepted : (tooShort : Bool) (c : SearchCall) → (tooShort ≡ false → search_short c ≡ false) → search_number_at tooShort c ≡ 0
    → SearchAccepted c × (tooShort ≡ false)
unfolding search_number_at
number-accepted tooShort c alone e =
    let p₁ = passed 0 _ _ e in
    let p₂ = passed 1 _ _ p₁.1 in
    let p₃ = passed 2 _ _ p₂.1 in
    let p₄ = passed 3 _ _ p₃.1 in
    let p₆ = passed 5 _ _ p₄.1 in
    let p₈ = passed 7 _ _ p₆.1 in
    let p₁₀ = passed 9 _ _ p₈.1 in
    let p₁₁ = passed 10 _ _ p₁₀.1 in
    let dim = dim_good c.dim p₁.0 in
    let vectors = vectors_good c.n c.dim c.vectors p₂.0 in
    let degree = degree_good c.degree p₃.0 in
    let table = searched_good c.n c.degree c.table p₈.0 in
    let room = search_room c (alone p₁₀.0) in (
      record {
        dim_some = dim.0;
        dim_few = dim.1;
        nodes_some = vectors.0;
        nodes = vectors.1;
        vectors_are = vectors.2;
        degree_some = degree.some;
        degree_few = degree.few;
        beam_few = beam_good c.beam p₄.0;
        start_in = start_good c.n c.start p₆.0;
        table_is = table.0;
        ruled = table.1;
        rows = search_rule_searchable c.n c.table table.1;
        word_room = room.words;
        float_room = room.floats;
        id_room = room.ids;
        dist_room = room.dists;
        query_is = eqb-true (length c.query) c.dim (not-false _ p₁₁.0);
      },
      p₁₀.0,
    )

pub search_accepted : (c : SearchCall) → search_number c ≡ 0 → SearchAccepted c
unfolding search_number
search_accepted c e = (number-accepted (search_short c) c (λ s. s) e).0

-- a call whose table keeps the search rule is the same as cleaned
pub cleaned-call : (c : SearchCall) → search_rule c.n c.table ≡ true → cleaned_call c ≡ c
unfolding cleaned_call
cleaned-call c rule =
    ap (λ (table : List ℕ).
    record {
      n = c.n;
      dim = c.dim;
      vectors = c.vectors;
      degree = c.degree;
      beam = c.beam;
      k = c.k;
      start = c.start;
      table = table;
      query = c.query;
      words = c.words;
      floats = c.floats;
      ids = c.ids;
      dists = c.dists;
    }) (cleaned-same c.n c.table (search_rule_searchable c.n c.table rule))

-- what an accepted search goes by; and each of its answers is an entry, with its own distance
module _ (c : SearchCall) (a : SearchAccepted c) where
  abbrev pub ground : Ground
  ground =
      record {
        d = from_query c.dim c.vectors c.query;
        rows = row c.degree c.table;
        n = c.n;
        beam = max c.beam 1;
        start = c.start;
        starts = a.start_in;
        good = λ i w below m. search_rule-mem c.n c.table a.ruled w (row-mem c.degree c.table i m);
      }

  pub search_answers : (x : Item) → Mem x (found c) → (x.dist ≡ from_query c.dim c.vectors c.query x.id) × (x.id < c.n)
  unfolding found answers searched
  search_answers x m = ranked_own ground c.k x m

-- with `run` records beside the two outputs
pub accepted-at : (c : SearchCall) (run : ℕ) → search_number_at (search_short c || ltb run (most_answers c.beam c.k)) c ≡ 0
    → SearchAccepted c × (most_answers c.beam c.k ≤ run)
accepted-at c run e =
    let either = or_neither (search_short c) (ltb run (most_answers c.beam c.k)) in
    let a = number-accepted _ c (λ s. (either s).0) e in
    (a.0, ltb-false _ _ (either a.1).1)

pub records_accepted : (c : SearchCall) (records : List Candidate) → records_number c records ≡ 0
    → SearchAccepted c × (most_answers c.beam c.k ≤ length records)
unfolding records_number short
records_accepted c records e = accepted-at c (length records) e

pub seek-accepted : (text : List ℕ) → seek_number text ≡ 0 → (malformed text ≡ false) × SearchAccepted (seek_call (values text))
unfolding seek_number
seek-accepted text e =
    let p = passed 12 (malformed text) (search_number (seek_call (values text))) e in (p.0, search_accepted (seek_call (values text)) p.1)
