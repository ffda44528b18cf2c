-- What an exhaustive search and a report have that are accepted; and that each query of a report is one of an accepted search.
use Rattle.std.specs.Prelude.{ℕ, ◌+◌, ◌*◌, ◌/◌, ◌%◌, ◌≤◌, ◌<◌, min, ◌≡◌, true, false, not, ◌||◌, List, ltb, eqb, Float, length}
use Rattle.std.proofs.Common.{div-add-mod', arith, ltb-false, eqb-true}
use Rattle.std.proofs.lemmas.Bool.{eqb-false, not-false}
use Rattle.definition.specs.Tables.{search_rule}
use Rattle.definition.specs.Refusals.{ExhaustiveCall, exhaustive_number, ReportCall, report_number, SearchCall, bad_k, bad_queries, short, most_answers}
use Rattle.definition.specs.Refusals.{search_words, search_floats, report_words, report_floats}
use Rattle.definition.specs.Outcome.{query_count}
use Rattle.laws.specs.Truth.{or_neither}
use Rattle.theory.specs.Rule.{search_rule_searchable}
use Rattle.accepted.specs.Chain.{passed}
use Rattle.accepted.specs.Checks.{Entries, entries_good, Degree, degree_good, beam_good, start_good, searched_good}
use Rattle.accepted.specs.Search.{SearchAccepted}

pub k_good : (k : ℕ) → bad_k k ≡ false → (1 ≤ k) × (k ≤ 256)
unfolding bad_k
k_good k e = let s = or_neither (eqb k 0) (ltb 256 k) e in let z = eqb-false k 0 s.0 in (omega arith, ltb-false 256 k s.1)

-- ---- exhaustive search

pub record ExhaustiveAccepted (c : ExhaustiveCall) : Type 0 where
  pub entries : Entries c.n c.dim c.vectors
  pub id_room : min c.k c.n ≤ length c.ids
  pub dist_room : min c.k c.n ≤ length c.dists
  pub query_is : length c.query ≡ c.dim
  pub k_some : 1 ≤ c.k
  pub k_few : c.k ≤ 256

pub exhaustive_accepted : (c : ExhaustiveCall) → exhaustive_number c ≡ 0 → ExhaustiveAccepted c
unfolding exhaustive_number short
exhaustive_accepted c e =
    let p₁ = passed 0 _ _ e in
    let p₂ = passed 1 _ _ p₁.1 in
    let p₁₀ = passed 9 _ _ p₂.1 in
    let p₁₁ = passed 10 _ _ p₁₀.1 in
    let p₁₄ = passed 13 _ _ p₁₁.1 in
    let room = or_neither (ltb (length c.ids) (min c.k c.n)) _ p₁₀.0 in
    let k = k_good c.k p₁₄.0 in
    record {
      entries = entries_good c.n c.dim c.vectors p₁.0 p₂.0;
      id_room = ltb-false _ _ room.0;
      dist_room = ltb-false _ _ room.1;
      query_is = eqb-true (length c.query) c.dim (not-false _ p₁₁.0);
      k_some = k.0;
      k_few = k.1;
    }

-- ---- report

pub record ReportAccepted (c : ReportCall) : Type 0 where
  pub entries : Entries c.n c.dim c.vectors
  pub degree : Degree c.degree
  pub beam_few : c.beam ≤ 256
  pub start_in : c.start < c.n
  pub table_is : length c.table ≡ c.n * c.degree
  pub ruled : search_rule c.n c.table ≡ true
  pub word_room : c.n + 1024 ≤ length c.words
  pub float_room : 1024 ≤ length c.floats
  pub queries_are : length c.queries ≡ query_count c * c.dim
  pub queries_few : query_count c ≤ 65535
  pub k_some : 1 ≤ c.k
  pub k_few : c.k ≤ 256

-- the bytes are so many queries of dim bytes each, and not too many
pub queries_good : (dim : ℕ) (queries : List ℕ) → bad_queries dim queries ≡ false
    → (length queries ≡ length queries / dim * dim) × (length queries / dim ≤ 65535)
unfolding bad_queries
queries_good dim queries e =
    let s = or_neither (not (eqb (length queries % dim) 0)) (ltb 65535 (length queries / dim)) e in
    let z = eqb-true (length queries % dim) 0 (not-false _ s.0) in
    (omega (arith, div-add-mod' (length queries) dim, z), ltb-false _ _ s.1)

report_room : (n : ℕ) (words : List ℕ) (floats : List Float) → (short (report_words n) words || short report_floats floats) ≡ false
    → (n + 1024 ≤ length words) × (1024 ≤ length floats)
unfolding short report_words report_floats search_words search_floats
report_room n words floats e =
    let s = or_neither (ltb (length words) (n + 512 + 512)) (ltb (length floats) (512 + 512)) e in
    let w = ltb-false (length words) (n + 512 + 512) s.0 in
    let f = ltb-false (length floats) (512 + 512) s.1 in
    (omega arith, omega arith)

pub report_accepted : (c : ReportCall) → report_number c ≡ 0 → ReportAccepted c
unfolding report_number query_count
report_accepted c e =
    let p₁ = passed 0 _ _ e in
    let p₂ = passed 1 _ _ p₁.1 in
    let p₃ = passed 2 _ _ p₂.1 in
    let p₄ = passed 3 _ _ p₃.1 in
    let p₆ = passed 5 _ _ p₄.1 in
    let p₈ = passed 7 _ _ p₆.1 in
    let p₁₀ = passed 9 _ _ p₈.1 in
    let p₁₁ = passed 10 _ _ p₁₀.1 in
    let p₁₄ = passed 13 _ _ p₁₁.1 in
    let table = searched_good c.n c.degree c.table p₈.0 in
    let room = report_room c.n c.words c.floats p₁₀.0 in
    let queries = queries_good c.dim c.queries p₁₁.0 in
    let k = k_good c.k p₁₄.0 in
    record {
      entries = entries_good c.n c.dim c.vectors p₁.0 p₂.0;
      degree = degree_good c.degree p₃.0;
      beam_few = beam_good c.beam p₄.0;
      start_in = start_good c.n c.start p₆.0;
      table_is = table.0;
      ruled = table.1;
      word_room = room.0;
      float_room = room.1;
      queries_are = queries.0;
      queries_few = queries.1;
      k_some = k.0;
      k_few = k.1;
    }

-- ---- one query of a report

-- the search of a query, with any room and any outputs
abbrev pub search_of : ReportCall → List ℕ → List ℕ → List Float → List ℕ → List Float → SearchCall
search_of c query words floats ids dists =
    record {
      n = c.n;
      dim = c.dim;
      vectors = c.vectors;
      degree = c.degree;
      beam = c.beam;
      k = c.k;
      start = c.start;
      table = c.table;
      query = query;
      words = words;
      floats = floats;
      ids = ids;
      dists = dists;
    }

abbrev pub exhaustive_of : ReportCall → List ℕ → List ℕ → List Float → ExhaustiveCall
exhaustive_of c query ids dists =
    record { n = c.n; dim = c.dim; vectors = c.vectors; k = c.k; query = query; ids = ids; dists = dists }

module _ (c : ReportCall) (a : ReportAccepted c) (query : List ℕ) (q : length query ≡ c.dim) where
  -- outputs of 256 places are enough
  pub report_searches : (words : List ℕ) (floats : List Float) (ids : List ℕ) (dists : List Float)
      → c.n + 512 ≤ length words
      → 512 ≤ length floats
      → 256 ≤ length ids
      → 256 ≤ length dists
      → SearchAccepted (search_of c query words floats ids dists)
  unfolding most_answers
  report_searches words floats ids dists w f i d =
      record {
        dim_some = a.entries.dim_some;
        dim_few = a.entries.dim_few;
        nodes_some = a.entries.nodes_some;
        nodes = a.entries.nodes;
        vectors_are = a.entries.vectors_are;
        degree_some = a.degree.some;
        degree_few = a.degree.few;
        beam_few = a.beam_few;
        start_in = a.start_in;
        table_is = a.table_is;
        ruled = a.ruled;
        rows = search_rule_searchable c.n c.table a.ruled;
        word_room = w;
        float_room = f;
        id_room = omega (arith, a.k_few);
        dist_room = omega (arith, a.k_few);
        query_is = q;
      }

  pub report_exhausts : (ids : List ℕ) (dists : List Float) → 256 ≤ length ids → 256 ≤ length dists → ExhaustiveAccepted (exhaustive_of c query ids dists)
  report_exhausts ids dists i d =
      record {
        entries = a.entries;
        id_room = omega (arith, a.k_few);
        dist_room = omega (arith, a.k_few);
        query_is = q;
        k_some = a.k_some;
        k_few = a.k_few;
      }
