-- The number of a report: r is that of every such call that is lent these lengths.
use Rattle.std.specs.Prelude.{◌≡◌, List, [], ◌∷◌, ◌++◌, ℕ, Float, length}
use Rattle.definition.specs.Refusals.{bad_searched, bad_k, report_number}
use Rattle.checks_number.specs.Tests.{Tests, number_of}
use Rattle.checks_number.specs.SearchNumber.{limit_tests}
use Rattle.checks_recall.specs.Lengths.{report_short, report_is, wrong_queries, queries_is}

module _ (n dim : ℕ) (vectors : List ℕ) (degree beam k start : ℕ) (table : List ℕ) (queries words floats : ℕ) where
  pub record ReportNumbered (r : ℕ) : Type 0 where
    pub is : (qs ws : List ℕ) (fs : List Float) → length qs ≡ queries → length ws ≡ words → length fs ≡ floats → r ≡ report_number (record {
      n = n;
      dim = dim;
      vectors = vectors;
      degree = degree;
      beam = beam;
      k = k;
      start = start;
      table = table;
      queries = qs;
      words = ws;
      floats = fs;
    })

  abbrev pub report_tests : Tests
  report_tests =
      limit_tests n dim vectors degree beam start
      ++ ((8, bad_searched n degree table) ∷ (10, report_short n words floats) ∷ (11, wrong_queries dim queries) ∷ (14, bad_k k) ∷ [])

module _ {n dim : ℕ} {vectors : List ℕ} {degree beam k start : ℕ} {table : List ℕ} {queries words floats r : ℕ} where
  pub report_numbered : r ≡ number_of (report_tests n dim vectors degree beam k start table queries words floats)
      → ReportNumbered n dim vectors degree beam k start table queries words floats r
  unfolding report_number number_of
  report_numbered e = record { is = λ qs ws fs p q s. rw (report_is n ws fs words floats q s, queries_is dim qs queries p) e }
