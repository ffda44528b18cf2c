-- "Padding is skipped wherever it stands, and repeats and own ids are harmless": an accepted search, with a run of records or not, leaves what it leaves with
-- the table in which each own id and each repeat within a row is padding, and with the one in which the ids of each row come first. Both pass the search rule.
-- They are two of a kind: of a row a search reads only the ids, each at its first place, and not the row's own.
use Rattle.std.specs.Prelude.{ℕ, ◌<◌, ◌≡◌, refl, ◌≢◌, Bool, false, length}
use Rattle.std.proofs.Common.{arith, ◌∙◌}
use Rattle.std.proofs.Math.Path.{sym, ap, ap₂}
use mathlib.Core.List.{List, [], ◌∷◌, map, Memᴰ as Mem}
use Rattle.std.proofs.Math.ListN.{take}
use Rattle.definition.specs.declared.Candidate.{Candidate}
use Rattle.definition.specs.Lists.{sort, over, cleared}
use Rattle.definition.specs.Tables.{pad, row, ids, padded, table_of}
use Rattle.definition.specs.Metric.{whole}
use Rattle.definition.specs.Floats.{nought}
use Rattle.definition.specs.Beam.{Item}
use Rattle.definition.specs.Greedy.{State}
use Rattle.definition.specs.Search.{listed_first, ranked, searched, answers}
use Rattle.definition.specs.Refusals.{bad_searched, search_words, search_floats}
use Rattle.definition.specs.Refusals.{SearchCall, search_number, search_number_at, search_short, records_number}
use Rattle.definition.specs.Outcome.{search_answer, found, walked, found_ids, found_dists, found_records}
use Rattle.definition.specs.Outcome.{search_out, search_kept, search_done, records_out, records_kept, records_done}
use Rattle.laws.specs.Places.{table_of_mem}
use Rattle.laws.specs.Tables.{row-length, row-mem, row_table_of, table_length, length-padded, ids-few}
use Rattle.theory.specs.Rule.{search_rule-mem, mem-search_rule}
use Rattle.theory.specs.search.Alike.{read_of, greedy_alike}
use Rattle.theory.specs.search.Plain.{plain_row, plain_length, plain_words, plain_read, padded_words, padded_read}
use Rattle.accepted.specs.Outcomes.{by_success}
use Rattle.accepted.specs.Checks.{searched-passes}
use Rattle.accepted.specs.Search.{SearchAccepted, ground, search_accepted, records_accepted}
use Rattle.promises.specs.Searching.{rows_of}

-- the call with another table
abbrev pub with_table : List ℕ → SearchCall → SearchCall
with_table table c =
    record {
      n = c.n;
      dim = c.dim;
      vectors = c.vectors;
      degree = c.degree;
      beam = c.beam;
      k = c.k;
      start = c.start;
      table = table;
      query = c.query;
      words = c.words;
      floats = c.floats;
      ids = c.ids;
      dists = c.dists;
    }

-- ---- what a search reads

-- the table passes check 8, and of each row the same is read
pub record ReadAlike (c : SearchCall) (table : List ℕ) : Type 0 where
  pub passes : bad_searched c.n c.degree table ≡ false
  pub alike : (i : ℕ) → i < c.n → read_of i (rows_of c i) ≡ read_of i (row c.degree table i)

module _ (c : SearchCall) (table : List ℕ) (r : ReadAlike c table) where
  walked_reads : SearchAccepted c → walked c ≡ walked (with_table table c)
  unfolding walked searched
  walked_reads a = greedy_alike (ground c a) (row c.degree table) r.alike

  pub found_reads : SearchAccepted c → found c ≡ found (with_table table c)
  unfolding found answers ranked walked
  found_reads a = ap (λ (s : State). take c.k (sort listed_first s.work)) (walked_reads a)

  done_alike : SearchAccepted c → search_done c ≡ search_done (with_table table c)
  unfolding search_done found_ids found_dists
  done_alike a =
      ap₂ (λ (l : List Item) (s : State).
      record {
        answer = search_answer (length l) (length s.expanded) (length s.visited);
        words = cleared 0 (search_words c.n) c.words;
        floats = cleared nought search_floats c.floats;
        ids = over (map (λ x. x.id) l) c.ids;
        dists = over (map (λ x. whole x.dist) l) c.dists;
      }) (found_reads a) (walked_reads a)

  number_alike : (tooShort : Bool) → SearchAccepted c → search_number_at tooShort c ≡ search_number_at tooShort (with_table table c)
  unfolding search_number_at
  number_alike tooShort a = rw (searched-passes c.n c.degree c.table a.table_is a.ruled, r.passes)

  pub search_reads : search_number c ≡ 0 → search_out c ≡ search_out (with_table table c)
  unfolding search_out search_number search_short
  search_reads z =
      let a = search_accepted c z in
      let same = number_alike (search_short c) a in
      by_success (search_kept c) (search_done c) (search_number c) z
      ∙ done_alike a
      ∙ sym (by_success (search_kept (with_table table c)) (search_done (with_table table c)) (search_number (with_table table c)) (sym same ∙ z))

  pub records_reads : (records : List Candidate) → records_number c records ≡ 0 → records_out c records ≡ records_out (with_table table c) records
  unfolding records_out records_done records_number search_short found_records
  records_reads records z =
      let a = (records_accepted c records z).0 in
      let same = number_alike _ a in
      let d : records_done c records ≡ records_done (with_table table c) records = λ i. record {
        plain = done_alike a i;
        records = over (map (λ x. record { id = x.id; distance = whole x.dist }) (found_reads a i)) records;
      } in
      by_success (records_kept c records) (records_done c records) (records_number c records) z ∙ d
      ∙ sym (by_success (records_kept (with_table table c) records) (records_done (with_table table c) records) (records_number (with_table table c) records)
      (sym same ∙ z))

-- ---- a table by its rows

-- padding, or an id below n
abbrev Word : ℕ → ℕ → Type 0
Word n w = w ≢ pad → w < n

pad_word : (n : ℕ) → Word n pad
pad_word n other = absurd (other refl)

row_word : (c : SearchCall) → SearchAccepted c → (i w : ℕ) → Mem w (rows_of c i) → Word c.n w
row_word c a i w m = search_rule-mem c.n c.table a.ruled w (row-mem c.degree c.table i m)

-- rows of words, as wide as they should be, that read as the call's
rows_alike : (c : SearchCall) (rows : ℕ → List ℕ) → ((i : ℕ) → i < c.n → length (rows i) ≡ c.degree)
    → ((i w : ℕ) → Mem w (rows i) → Word c.n w)
    → ((i : ℕ) → read_of i (rows_of c i) ≡ read_of i (rows i))
    → ReadAlike c (table_of c.n rows)
rows_alike c rows wide words alike =
    record {
      passes = searched-passes c.n c.degree (table_of c.n rows) (table_length c.n c.degree rows wide)
          (mem-search_rule c.n (table_of c.n rows) (λ w m. let t = table_of_mem c.n rows m in words t.0 w t.2));
      alike = λ i h. alike i ∙ ap (read_of i) (sym (row_table_of c.n c.degree rows wide i h));
    }

-- ---- each own id and each repeat within a row is padding

unfoldable pub plain_table : SearchCall → List ℕ
plain_table c = table_of c.n (λ i. plain_row i (rows_of c i))

plain_alike : (c : SearchCall) → SearchAccepted c → ReadAlike c (plain_table c)
unfolding plain_table plain_row
plain_alike c a =
    rows_alike c (λ i. plain_row i (rows_of c i))
    (λ i h. plain_length (i ∷ []) (rows_of c i) ∙ row-length c.n c.degree c.table a.table_is i h)
    (λ i. plain_words (Word c.n) (pad_word c.n) (rows_of c i) (i ∷ []) (row_word c a i)) (λ i. sym (plain_read i (rows_of c i)))

pub search_harmless : (c : SearchCall) → search_number c ≡ 0 → search_out c ≡ search_out (with_table (plain_table c) c)
search_harmless c z = search_reads c (plain_table c) (plain_alike c (search_accepted c z)) z

pub records_harmless : (c : SearchCall) (records : List Candidate) → records_number c records ≡ 0
    → records_out c records ≡ records_out (with_table (plain_table c) c) records
records_harmless c records z = records_reads c (plain_table c) (plain_alike c (records_accepted c records z).0) records z

-- ---- the ids of each row come first, then only padding

unfoldable pub ids_first_table : SearchCall → List ℕ
ids_first_table c = table_of c.n (λ i. padded c.degree (ids (rows_of c i)))

first_alike : (c : SearchCall) → SearchAccepted c → ReadAlike c (ids_first_table c)
unfolding ids_first_table
first_alike c a =
    rows_alike c (λ i. padded c.degree (ids (rows_of c i))) wide
    (λ i. padded_words (Word c.n) (pad_word c.n) c.degree (rows_of c i) (row_word c a i)) (λ i. padded_read i c.degree (rows_of c i))
  where
    wide : (i : ℕ) → i < c.n → length (padded c.degree (ids (rows_of c i))) ≡ c.degree
    wide i h =
        let size = row-length c.n c.degree c.table a.table_is i h in
        length-padded c.degree (ids (rows_of c i)) (omega (arith, ids-few (rows_of c i)))

pub search_skips : (c : SearchCall) → search_number c ≡ 0 → search_out c ≡ search_out (with_table (ids_first_table c) c)
search_skips c z = search_reads c (ids_first_table c) (first_alike c (search_accepted c z)) z

pub records_skips : (c : SearchCall) (records : List Candidate) → records_number c records ≡ 0
    → records_out c records ≡ records_out (with_table (ids_first_table c) c) records
records_skips c records z = records_reads c (ids_first_table c) (first_alike c (records_accepted c records z).0) records z

-- ---- so for the answers alone, those of a text's search too

pub found_harmless : (c : SearchCall) → search_number c ≡ 0
    → (found c ≡ found (with_table (plain_table c) c)) × (found c ≡ found (with_table (ids_first_table c) c))
found_harmless c z =
    let a = search_accepted c z in
    (found_reads c (plain_table c) (plain_alike c a) a, found_reads c (ids_first_table c) (first_alike c a) a)
