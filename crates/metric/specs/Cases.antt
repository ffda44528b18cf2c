-- The cases of `distance_out`, as tests in code find them.
use Rattle.std.specs.Prelude.{◌≡◌, List, ℕ, ◌≤◌, ◌<◌, length}
use Rattle.std.proofs.Common.{arith}
use borrow.Author.Tests.{eq-eqb, ne_eqb, lt-ltb, le-ltb}
use Rattle.definition.specs.Metric.{metric, whole}
use Rattle.definition.specs.Refusals.{◌when◌else◌, bad_dim, distance_number}
use Rattle.definition.specs.Outcome.{answer, refused, by_number, distance_out}

module _ (a b : List ℕ) where
  pub distance_none : length a ≡ 0 → distance_out (record { first = a; second = b }) ≡ refused 1
  unfolding distance_out distance_number bad_dim by_number ◌when◌else◌
  distance_none h = rw (eq-eqb (length a) 0 h)

  pub distance_long : 256 < length a → distance_out (record { first = a; second = b }) ≡ refused 1
  unfolding distance_out distance_number bad_dim by_number ◌when◌else◌
  distance_long h = rw (ne_eqb (length a) 0 (λ e. omega arith), lt-ltb 256 (length a) h)

  module _ (some : length a ≡ 0 → ⊥) (few : length a ≤ 256) where
    pub distance_unequal : (length a ≡ length b → ⊥) → distance_out (record { first = a; second = b }) ≡ refused 11
    unfolding distance_out distance_number bad_dim by_number ◌when◌else◌
    distance_unequal h = rw (ne_eqb (length a) 0 some, le-ltb 256 (length a) few, ne_eqb (length a) (length b) h)

    pub distance_done : length a ≡ length b → distance_out (record { first = a; second = b }) ≡ answer 0 0 0 0 (whole (metric a b))
    unfolding distance_out distance_number bad_dim by_number ◌when◌else◌
    distance_done h = rw (ne_eqb (length a) 0 some, le-ltb 256 (length a) few, eq-eqb (length a) (length b) h)
