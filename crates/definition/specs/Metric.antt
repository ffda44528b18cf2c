-- Part 1, with 5/13's rule for saturated samples. The byte metric, the vectors, and the f32 value of a whole distance.
use Rattle.std.specs.Prelude.{ℕ, ◌+◌, ◌-◌, ◌*◌, Bool, cond, ◌||◌, List, [], ◌∷◌, eqb, take, drop, pos, Float}
use Rattle.std.specs.Float.{binary32}
use Rattle.std.specs.Float.Ieee.{of_int}

-- how far two samples lie apart
unfoldable pub gap : ℕ → ℕ → ℕ
gap a b = (a - b) + (b - a)

-- a sample of 255: the receiver clipped
unfoldable pub saturated : ℕ → Bool
saturated a = eqb a 255

-- what one sample adds to the distance: nothing where it is saturated in either vector
unfoldable pub squared : ℕ → ℕ → ℕ
squared a b = cond (saturated a || saturated b) 0 (gap a b * gap a b)

-- a sum over the samples of two vectors
unfoldable pub summed : (ℕ → ℕ → ℕ) → List ℕ → List ℕ → ℕ
summed adds [] ys = 0
summed adds (x ∷ xs) [] = 0
summed adds (x ∷ xs) (y ∷ ys) = adds x y + summed adds xs ys

-- the distance of two vectors: the sum of the squared byte differences that are not saturated
unfoldable pub metric : List ℕ → List ℕ → ℕ
metric xs ys = summed squared xs ys

-- entry i of the flat vectors
unfoldable pub vector : ℕ → List ℕ → ℕ → List ℕ
vector dim vectors i = take dim (drop (i * dim) vectors)

-- the distance from a query to entry i, and between entries i and j
unfoldable pub from_query : ℕ → List ℕ → List ℕ → ℕ → ℕ
from_query dim vectors query i = metric query (vector dim vectors i)

unfoldable pub between : ℕ → List ℕ → ℕ → ℕ → ℕ
between dim vectors i j = metric (vector dim vectors i) (vector dim vectors j)

-- the f32 of a whole number: exact up to 2^24
unfoldable pub whole : ℕ → Float
whole n = of_int binary32 (pos n)
