-- The tests that several calls begin with: 1 and 2; and 1 to 6, of a batch and a whole build.
use Rattle.std.specs.Prelude.{◌≡◌, refl, false, List, [], ◌∷◌, ◌++◌, ℕ}
use Rattle.definition.specs.declared.Params.{Params}
use Rattle.definition.specs.Refusals.{bad_dim, bad_vectors, bad_degree, bad_beam, bad_alpha, bad_start}
use Rattle.checks_number.specs.Tests.{Tests, number_of, holds_at, numbered, cleared, cleared_rest}

abbrev pub entry_tests : ℕ → ℕ → List ℕ → Tests
entry_tests n dim vectors = (1, bad_dim dim) ∷ (2, bad_vectors n dim vectors) ∷ []

abbrev pub param_tests : ℕ → ℕ → List ℕ → Params → ℕ → Tests
param_tests n dim vectors params start =
    entry_tests n dim vectors
    ++ ((3, bad_degree params.degree) ∷ (4, bad_beam params.beam) ∷ (5, bad_alpha params.alpha) ∷ (6, bad_start n start) ∷ [])

-- where their number is 0, none holds
pub entries-clear : (n dim : ℕ) (vectors : List ℕ) → number_of (entry_tests n dim vectors) ≡ 0 → (i : ℕ) → holds_at (entry_tests n dim vectors) i ≡ false
unfolding numbered
entries-clear n dim vectors z = cleared (entry_tests n dim vectors) refl z

pub params-clear : (n dim : ℕ) (vectors : List ℕ) (params : Params) (start : ℕ) → number_of (param_tests n dim vectors params start) ≡ 0
    → (i : ℕ) → holds_at (param_tests n dim vectors params start) i ≡ false
unfolding numbered
params-clear n dim vectors params start z = cleared (param_tests n dim vectors params start) refl z

-- then the number is that of the tests that follow
pub entries_past : (n dim : ℕ) (vectors : List ℕ) (us : Tests) {r : ℕ} → number_of (entry_tests n dim vectors) ≡ 0
    → r ≡ number_of us → r ≡ number_of (entry_tests n dim vectors ++ us)
unfolding numbered
entries_past n dim vectors us z e = cleared_rest (entry_tests n dim vectors) us refl z e

pub params_past : (n dim : ℕ) (vectors : List ℕ) (params : Params) (start : ℕ) (us : Tests) {r : ℕ} → number_of (param_tests n dim vectors params start) ≡ 0
    → r ≡ number_of us → r ≡ number_of (param_tests n dim vectors params start ++ us)
unfolding numbered
params_past n dim vectors params start us z e = cleared_rest (param_tests n dim vectors params start) us refl z e
