-- `seek`, text in and text out.
use Rattle.std.specs.Prelude.{ℕ, zero, suc, ◌+◌, List, [], ◌∷◌, map, ◌≡◌, refl}
use Prim.Native.Char.{code}
use Prim.Native.String.{String, len, char_at}
use Rattle.definition.specs.Seek.{seek}
use Rattle.definition.specs.checked.Opened.{opened}

-- the bytes of a text in ASCII, from place i on
unfoldable pub bytes_from : String → ℕ → ℕ → List ℕ
bytes_from t i zero = []
bytes_from t i (suc k) = code (char_at t i) ∷ bytes_from t (i + 1) k

unfoldable pub bytes : String → List ℕ
bytes t = bytes_from t 0 (len t)

pub record Text : Type 0 where
  pub given : String
  pub printed : String

abbrev pub prints : String → String → Text
prints g p = record { given = g; printed = p }

unfoldable pub texts : List Text
texts =
    -- document 01's input; with further spaces and newlines
    prints "4 1 2 0 2 2 10 20 30 40 1 - 0 2 1 3 2 - 38" "2\n3 4\n2 64\n" ∷
    prints "\n 4 1  2 0 2\n2 10 20 30 40 1 - 0 2 1 3 2 - 38\n" "2\n3 4\n2 64\n" ∷
    -- equal distances: the line and query 25 with beam 4, and cut to 3; the case that misses entry 3
    prints "4 1 2 0 4 4 10 20 30 40 1 - 0 2 1 3 2 - 25" "4\n2 25\n1 25\n3 225\n0 225\n" ∷
    prints "4 1 2 0 4 3 10 20 30 40 1 - 0 2 1 3 2 - 25" "3\n2 25\n1 25\n3 225\n" ∷
    prints "4 1 2 0 2 2 10 20 30 25 1 - 0 2 1 3 2 - 25" "2\n2 25\n1 25\n" ∷
    -- malformed: a word more, a word fewer, a sample of 256, `-` for a sample, nothing at all, a tab, six digits
    prints "4 1 2 0 2 2 10 20 30 40 1 - 0 2 1 3 2 - 38 9" "refused 13\n" ∷
    prints "4 1 2 0 2 2 10 20 30 40 1 - 0 2 1 3 2 -" "refused 13\n" ∷
    prints "4 1 2 0 2 2 10 20 30 256 1 - 0 2 1 3 2 - 38" "refused 13\n" ∷
    prints "4 1 2 0 2 2 10 20 - 40 1 - 0 2 1 3 2 - 38" "refused 13\n" ∷
    prints "" "refused 13\n" ∷
    prints "4\t1 2 0 2 2 10 20 30 40 1 - 0 2 1 3 2 - 38" "refused 13\n" ∷
    prints "4 1 2 0 2 000002 10 20 30 40 1 - 0 2 1 3 2 - 38" "refused 13\n" ∷
    -- a start not below n, a row entry not below n, no entries
    prints "4 1 2 4 2 2 10 20 30 40 1 - 0 2 1 3 2 - 38" "refused 6\n" ∷
    prints "4 1 2 0 2 2 10 20 30 40 1 - 0 2 1 4 2 - 38" "refused 8\n" ∷
    prints "0 1 2 0 2 2 38" "refused 2\n" ∷
    []

pub texts_right : map (λ t. seek (bytes t.given)) texts ≡ map (λ t. bytes t.printed) texts
unfolding texts bytes bytes_from opened
texts_right = refl
