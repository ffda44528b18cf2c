-- The number of fit.
use Rattle.std.specs.Prelude.{◌≡◌, List, [], ◌∷◌, ℕ}
use Rattle.definition.specs.Refusals.{bad_count, bad_degree, bad_searched, fit_number}
use Rattle.checks_number.specs.Tests.{Tests, number_of}

pub record FitNumbered (n degree : ℕ) (table : List ℕ) (r : ℕ) : Type 0 where
  pub is : r ≡ fit_number (record { n = n; degree = degree; table = table })

abbrev pub fit_tests : ℕ → ℕ → List ℕ → Tests
fit_tests n degree table = (2, bad_count n) ∷ (3, bad_degree degree) ∷ (8, bad_searched n degree table) ∷ []

pub fit_numbered : {n degree : ℕ} {table : List ℕ} {r : ℕ} → r ≡ number_of (fit_tests n degree table) → FitNumbered n degree table r
unfolding fit_number number_of
fit_numbered e = record { is = e }
