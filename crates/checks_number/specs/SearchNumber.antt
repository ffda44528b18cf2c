-- The number of a search.
use Rattle.std.specs.Prelude.{◌≡◌, Bool, false, not, ◌||◌, List, [], ◌∷◌, ◌++◌, ℕ, min, max, ltb, eqb, Float, length}
use Rattle.std.proofs.Math.Path.{refl}
use Rattle.std.proofs.Common.{ap, ◌∙◌, arith, le-ltb}
use Rattle.std.proofs.Math.Bool.{or-false}
use Rattle.definition.specs.declared.Candidate.{Candidate}
use Rattle.definition.specs.Refusals.{SearchCall, bad_degree, bad_beam, bad_start, bad_searched, short, most_answers, search_short}
use Rattle.definition.specs.Refusals.{search_number_at, search_number, records_number}
use Rattle.definition.specs.Outcome.{cleaned_call}
use Rattle.definition.specs.Tables.{cleaned}
use Rattle.checks.specs.Lengths.{search_short_by}
use Rattle.checks_number.specs.Tests.{Tests, number_of, holds_at, numbered, cleared, cleared_rest}
use Rattle.checks_number.specs.Shared.{entry_tests}
use Rattle.checks_number.specs.declared.Asked.{Asked}

abbrev pub call_of : Asked → List ℕ → List Float → List ℕ → List Float → SearchCall
call_of asked words floats ids dists = record {
  n = asked.n;
  dim = asked.dim;
  vectors = asked.vectors.now;
  degree = asked.degree;
  beam = asked.beam;
  k = asked.k;
  start = asked.start;
  table = asked.table.now;
  query = asked.query.now;
  words = words;
  floats = floats;
  ids = ids;
  dists = dists;
}

-- a lookup is the search of the call as cleaned
abbrev lookup_of : Asked → List ℕ → List Float → List ℕ → List Float → SearchCall
lookup_of asked words floats ids dists = cleaned_call (call_of asked words floats ids dists)

-- check 10 by lengths
short_is : (c : SearchCall) (words floats ids dists run : ℕ) → length c.words ≡ words → length c.floats ≡ floats → length c.ids ≡ ids
    → length c.dists ≡ dists → (search_short c || ltb run (most_answers c.beam c.k)) ≡ search_short_by c.n c.beam c.k words floats ids dists run
unfolding search_short short search_short_by
short_is c words floats ids dists run p q r s = rw (p, q, r, s) refl

-- ---- the tests of a search: those of its numbers and vectors, 8, and those of what it is lent, with the query's

abbrev pub limit_tests : ℕ → ℕ → List ℕ → ℕ → ℕ → ℕ → Tests
limit_tests n dim vectors degree beam start = entry_tests n dim vectors ++ ((3, bad_degree degree) ∷ (4, bad_beam beam) ∷ (6, bad_start n start) ∷ [])

abbrev pub length_tests : Asked → ℕ → ℕ → ℕ → ℕ → ℕ → Tests
length_tests asked words floats ids dists run =
    (10, search_short_by asked.n asked.beam asked.k words floats ids dists run) ∷ (11, not (eqb (length asked.query.now) asked.dim)) ∷ []

pub limits_clear : (n dim : ℕ) (vectors : List ℕ) (degree beam start : ℕ) → number_of (limit_tests n dim vectors degree beam start) ≡ 0
    → (i : ℕ) → holds_at (limit_tests n dim vectors degree beam start) i ≡ false
unfolding numbered
limits_clear n dim vectors degree beam start z = cleared (limit_tests n dim vectors degree beam start) refl z

pub limits_past : (n dim : ℕ) (vectors : List ℕ) (degree beam start : ℕ) (us : Tests) {r : ℕ} → number_of (limit_tests n dim vectors degree beam start) ≡ 0
    → r ≡ number_of us → r ≡ number_of (limit_tests n dim vectors degree beam start ++ us)
unfolding numbered
limits_past n dim vectors degree beam start us z e = cleared_rest (limit_tests n dim vectors degree beam start) us refl z e

-- r is the number of the search c, with `run` records beside its two outputs
abbrev pub NumberedBeside : SearchCall → ℕ → ℕ → Type 0
NumberedBeside c run r = r ≡ search_number_at (search_short c || ltb run (most_answers c.beam c.k)) c

module _ (asked : Asked) (words floats ids dists : ℕ) where
  -- r is the number of every search that is lent these lengths, with `run` records
  pub record SearchNumbered (run r : ℕ) : Type 0 where
    pub is : (ws : List ℕ) (fs : List Float) (is : List ℕ) (ds : List Float) → length ws ≡ words → length fs ≡ floats → length is ≡ ids → length ds ≡ dists
        → NumberedBeside (call_of asked ws fs is ds) run r

  -- and of every such lookup, as if with k records
  pub record LookupNumbered (r : ℕ) : Type 0 where
    pub is : (ws : List ℕ) (fs : List Float) (is : List ℕ) (ds : List Float) → length ws ≡ words → length fs ≡ floats → length is ≡ ids → length ds ≡ dists
        → NumberedBeside (lookup_of asked ws fs is ds) asked.k r

  -- the tests, of a table that may be another than the one that is lent
  abbrev pub search_tests : List ℕ → ℕ → Tests
  search_tests table run =
      limit_tests asked.n asked.dim asked.vectors.now asked.degree asked.beam asked.start
      ++ ((8, bad_searched asked.n asked.degree table) ∷ length_tests asked words floats ids dists run)

module _ {asked : Asked} {words floats ids dists r : ℕ} where
  pub search_numbered : {run : ℕ} → r ≡ number_of (search_tests asked words floats ids dists asked.table.now run)
      → SearchNumbered asked words floats ids dists run r
  unfolding search_number_at number_of
  search_numbered {run} e = record {
    is = λ ws fs is ds p q r s. rw (short_is (call_of asked ws fs is ds) words floats ids dists run p q r s) e;
  }

  pub lookup_numbered : r ≡ number_of (search_tests asked words floats ids dists (cleaned asked.n asked.table.now) asked.k)
      → LookupNumbered asked words floats ids dists r
  unfolding search_number_at number_of cleaned_call
  lookup_numbered e = record {
    is = λ ws fs is ds p q r s. rw (short_is (lookup_of asked ws fs is ds) words floats ids dists asked.k p q r s) e;
  }

k_enough : (beam k : ℕ) → ltb k (most_answers beam k) ≡ false
unfolding most_answers
k_enough beam k = le-ltb k (min k (max beam 1)) (omega arith)

-- the two calls: without records it is as if there were k of them
module _ (c : SearchCall) (r : ℕ) where
  pub plain : NumberedBeside c c.k r → r ≡ search_number c
  unfolding search_number
  plain m =
      m ∙ ap (λ (t : Bool). search_number_at t c)
      (ap (λ (t : Bool). search_short c || t) (k_enough c.beam c.k) ∙ or-false (search_short c))

  pub with_records : (records : List Candidate) → NumberedBeside c (length records) r → r ≡ records_number c records
  unfolding records_number short
  with_records records m = m
