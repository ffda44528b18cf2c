-- The number of medoid.
use Rattle.std.specs.Prelude.{◌≡◌, List, [], ◌∷◌, ◌++◌, ℕ}
use Rattle.definition.specs.Refusals.{bad_pivots, medoid_number}
use Rattle.checks_number.specs.Tests.{Tests, number_of}
use Rattle.checks_number.specs.Shared.{entry_tests}

pub record MedoidNumbered (n dim : ℕ) (vectors pivots : List ℕ) (r : ℕ) : Type 0 where
  pub is : r ≡ medoid_number (record { n = n; dim = dim; vectors = vectors; pivots = pivots })

abbrev pub medoid_tests : ℕ → ℕ → List ℕ → List ℕ → Tests
medoid_tests n dim vectors pivots = entry_tests n dim vectors ++ ((12, bad_pivots n pivots) ∷ [])

pub medoid-numbered : {n dim : ℕ} {vectors pivots : List ℕ} {r : ℕ} → r ≡ number_of (medoid_tests n dim vectors pivots) → MedoidNumbered n dim vectors pivots r
unfolding medoid_number number_of
medoid-numbered e = record { is = e }
