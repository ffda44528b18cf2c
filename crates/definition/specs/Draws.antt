-- Part 10. Supplied draws. A generator is one number; each draw advances it.
use Rattle.std.specs.Prelude.{ℕ, zero, suc, ◌+◌, ◌-◌, ◌*◌, ◌/◌, ◌%◌, ◌^◌, min, cond, List, [], ◌∷◌, ◌++◌, map, leb, get_or, set, replicate}
use Rattle.definition.specs.Lists.{is_in, upto}
use Rattle.definition.specs.Tables.{pad, padded}

-- a state s becomes this
unfoldable pub advance : ℕ → ℕ
advance s = (6364136223846793005 * s + 1442695040888963407) % 2 ^ 64

-- the draw below m that a state gives, once advanced: its upper 32 bits, scaled
unfoldable pub drawn : ℕ → ℕ → ℕ
drawn m s = s / 2 ^ 32 * m / 2 ^ 32

-- words, and the generator after them
pub record Drawn : Type 0 where
  pub words : List ℕ
  pub state : ℕ

-- ---- opening rows

-- ids (i + 1 + (r + j) mod (n-1)) mod n, for the j of the list
unfoldable pub row_ids : ℕ → ℕ → ℕ → List ℕ → List ℕ
row_ids n i r js = map (λ j. (i + 1 + (r + j) % (n - 1)) % n) js

-- opening row i, with n above 1: one draw r below n-1
unfoldable pub row_drawn : ℕ → ℕ → ℕ → ℕ → List ℕ
row_drawn n degree i s = padded degree (row_ids n i (drawn (n - 1) s) (upto (min degree (n - 1))))

-- rows i, i + 1, .., k of them
unfoldable pub rows_from : ℕ → ℕ → ℕ → ℕ → ℕ → Drawn
rows_from n degree i zero s = record { words = []; state = s }
rows_from n degree i (suc k) s =
    let r = rows_from n degree (suc i) k (advance s) in
    record { words = row_drawn n degree i (advance s) ++ r.words; state = r.state }

-- the whole closed table, i rising; with n = 1 its row is empty and draws nothing
unfoldable pub rows_drawn : ℕ → ℕ → ℕ → Drawn
rows_drawn n degree s =
    let r = rows_from n degree 0 n s in
    cond (leb n 1) (record { words = replicate (n * degree) pad; state = s }) r

-- ---- a group of seeds

-- the first of r, r+1, .. mod n that is not among the taken
unfoldable pub first_free : ℕ → List ℕ → ℕ → ℕ → ℕ
first_free n taken zero r = r % n
first_free n taken (suc fuel) r = let next = first_free n taken fuel (r + 1) in cond (is_in (r % n) taken) next (r % n)

-- k more seeds, after the group so far
unfoldable pub seeds_from : ℕ → ℕ → ℕ → List ℕ → ℕ → Drawn
seeds_from n start zero group s = record { words = group; state = s }
seeds_from n start (suc k) group s =
    seeds_from n start k (group ++ (first_free n (start ∷ group) n (drawn n (advance s)) ∷ [])) (advance s)

unfoldable pub seeds_drawn : ℕ → ℕ → ℕ → ℕ → Drawn
seeds_drawn n start extra s = seeds_from n start extra [] s

-- ---- an order

unfoldable pub exchanged : List ℕ → ℕ → ℕ → List ℕ
exchanged xs i j = set (set xs i (get_or xs j 0)) j (get_or xs i 0)

-- for i from k down to 1: exchange places i and a draw below i+1
unfoldable pub shuffled : ℕ → List ℕ → ℕ → Drawn
shuffled zero xs s = record { words = xs; state = s }
shuffled (suc k) xs s = shuffled k (exchanged xs (suc k) (drawn (suc k + 1) (advance s))) (advance s)

unfoldable pub order_drawn : ℕ → ℕ → Drawn
order_drawn n s = shuffled (n - 1) (upto n) s

-- ---- pivots

unfoldable pub draws_below : ℕ → ℕ → ℕ → Drawn
draws_below n zero s = record { words = []; state = s }
draws_below n (suc k) s =
    let r = draws_below n k (advance s) in
    record { words = drawn n (advance s) ∷ r.words; state = r.state }

unfoldable pub pivots_drawn : ℕ → ℕ → Drawn
pivots_drawn n s = draws_below n (min 8 n) s
