-- The tests of lengths, by the lengths alone.
use Rattle.std.specs.Prelude.{◌≡◌, refl, Bool, not, ◌||◌, List, ℕ, ◌+◌, ◌/◌, ◌%◌, min, ltb, eqb, Float, length}
use Rattle.std.proofs.Common.{arith}
use Rattle.definition.specs.Refusals.{short, bad_queries, search_words, search_floats, report_words, report_floats}

unfoldable pub nearest_short : ℕ → ℕ → ℕ → ℕ → Bool
nearest_short n k ids dists = ltb ids (min k n) || ltb dists (min k n)

unfoldable pub report_short : ℕ → ℕ → ℕ → Bool
report_short n words floats = ltb words (report_words n) || ltb floats report_floats

unfoldable pub wrong_queries : ℕ → ℕ → Bool
wrong_queries dim size = not (eqb (size % dim) 0) || ltb 65535 (size / dim)

pub nearest_is : (n k : ℕ) (is : List ℕ) (ds : List Float) (ids dists : ℕ) → length is ≡ ids → length ds ≡ dists
    → (short (min k n) is || short (min k n) ds) ≡ nearest_short n k ids dists
unfolding short nearest_short
nearest_is n k is ds ids dists p q = rw (p, q) refl

pub report_is : (n : ℕ) (ws : List ℕ) (fs : List Float) (words floats : ℕ) → length ws ≡ words → length fs ≡ floats
    → (short (report_words n) ws || short report_floats fs) ≡ report_short n words floats
unfolding short report_short
report_is n ws fs words floats p q = rw (p, q) refl

pub queries_is : (dim : ℕ) (qs : List ℕ) (size : ℕ) → length qs ≡ size → bad_queries dim qs ≡ wrong_queries dim size
unfolding bad_queries wrong_queries
queries_is dim qs size p = rw p refl

-- the room of a report in one sum
pub report_words_lem : (n : ℕ) → report_words n ≡ n + 1024
unfolding report_words search_words
report_words_lem n = omega arith

pub report_floats_lem : report_floats ≡ 1024
unfolding report_floats search_floats
report_floats_lem = refl
