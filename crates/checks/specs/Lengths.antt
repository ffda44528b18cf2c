-- The tests of lengths, by the lengths alone: what is lent for writing is not read by a test.
use Rattle.std.specs.Prelude.{◌≡◌, ℕ, ◌*◌, Bool, not, ◌||◌, List, length, ◌==◌, nat_lt, refl, Float}
use Rattle.definition.specs.Refusals.{bad_length, short, build_words, build_floats, search_words, search_floats, most_answers}

unfoldable pub wrong_length : ℕ → ℕ → ℕ → Bool
wrong_length n width size = not (size == n * width)

unfoldable pub build_short : ℕ → ℕ → ℕ → Bool
build_short n words floats = nat_lt words (build_words n) || nat_lt floats (build_floats n)

unfoldable pub search_short_by : ℕ → ℕ → ℕ → ℕ → ℕ → ℕ → ℕ → ℕ → Bool
search_short_by n beam k words floats ids dists run =
    let most = most_answers beam k in
    (nat_lt words (search_words n) || (nat_lt floats search_floats || (nat_lt ids most || nat_lt dists most))) || nat_lt run most

pub length_is : (n width : ℕ) (table : List ℕ) (size : ℕ) → length table ≡ size → wrong_length n width size ≡ bad_length n width table
unfolding wrong_length bad_length
length_is n width table size e = rw e refl

-- the scratch of a batch, close or whole build
pub room_is : (n : ℕ) (ws : List ℕ) (fs : List Float) (words floats : ℕ) → length ws ≡ words → length fs ≡ floats
    → (short (build_words n) ws || short (build_floats n) fs) ≡ build_short n words floats
unfolding short build_short
room_is n ws fs words floats p q = rw (p, q) refl
