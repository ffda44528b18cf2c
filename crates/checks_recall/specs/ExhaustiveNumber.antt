-- The number of an exhaustive search: r is that of every such call that is lent these lengths.
use Rattle.std.specs.Prelude.{◌≡◌, not, List, [], ◌∷◌, ◌++◌, ℕ, eqb, Float, length}
use Rattle.definition.specs.Refusals.{bad_k, exhaustive_number}
use Rattle.checks_number.specs.Tests.{Tests, number_of}
use Rattle.checks_number.specs.Shared.{entry_tests}
use Rattle.checks_recall.specs.Lengths.{nearest_short, nearest_is}

module _ (n dim : ℕ) (vectors : List ℕ) (k query ids dists : ℕ) where
  pub record ExhaustiveNumbered (r : ℕ) : Type 0 where
    pub is : (qs is : List ℕ) (ds : List Float) → length qs ≡ query → length is ≡ ids → length ds ≡ dists → r ≡ exhaustive_number (record {
      n = n;
      dim = dim;
      vectors = vectors;
      k = k;
      query = qs;
      ids = is;
      dists = ds;
    })

  abbrev pub exhaustive_tests : Tests
  exhaustive_tests = entry_tests n dim vectors ++ ((10, nearest_short n k ids dists) ∷ (11, not (eqb query dim)) ∷ (14, bad_k k) ∷ [])

module _ {n dim : ℕ} {vectors : List ℕ} {k query ids dists r : ℕ} where
  pub exhaustive_numbered : r ≡ number_of (exhaustive_tests n dim vectors k query ids dists) → ExhaustiveNumbered n dim vectors k query ids dists r
  unfolding exhaustive_number number_of
  exhaustive_numbered e = record { is = λ qs is ds p q s. rw (nearest_is n k is ds ids dists q s, p) e }
