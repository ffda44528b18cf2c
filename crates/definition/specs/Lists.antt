-- Small things on lists that the library lacks over the native numbers. Nothing here is about the index.
use Rattle.std.specs.Prelude.{ℕ, zero, suc, ◌+◌, Bool, true, false, not, ◌&&◌, ◌||◌, cond, List, [], ◌∷◌, ◌++◌, ltb, eqb, length, take, drop, replicate}

module _ {A : Type 0} where
  -- every element passes the test
  unfoldable pub each : (A → Bool) → List A → Bool
  each p [] = true
  each p (x ∷ xs) = p x && each p xs

  -- those that pass the test, in their order
  unfoldable pub keep : (A → Bool) → List A → List A
  keep p [] = []
  keep p (x ∷ xs) = let r = keep p xs in cond (p x) (x ∷ r) r

  -- x before the first that does not stand ahead of it
  unfoldable pub place : (A → A → Bool) → A → List A → List A
  place ahead x [] = x ∷ []
  place ahead x (y ∷ ys) = let r = place ahead x ys in cond (ahead y x) (y ∷ r) (x ∷ y ∷ ys)

  -- in the order that `ahead` says, by insertion
  unfoldable pub sort : (A → A → Bool) → List A → List A
  sort ahead [] = []
  sort ahead (x ∷ xs) = place ahead x (sort ahead xs)

  -- the lists one after another
  unfoldable pub joined : List (List A) → List A
  joined [] = []
  joined (l ∷ ls) = l ++ joined ls

-- i, i + 1, .., k of them
unfoldable pub run : ℕ → ℕ → List ℕ
run i zero = []
run i (suc k) = i ∷ run (suc i) k

-- 0 .. n-1
unfoldable pub upto : ℕ → List ℕ
upto n = run 0 n

unfoldable pub is_in : ℕ → List ℕ → Bool
is_in x [] = false
is_in x (y ∷ ys) = eqb x y || is_in x ys

-- no number stands twice
unfoldable pub distinct : List ℕ → Bool
distinct [] = true
distinct (x ∷ xs) = not (is_in x xs) && distinct xs

-- each number once, at its first place, without those of `seen`
unfoldable pub once_only : List ℕ → List ℕ → List ℕ
once_only seen [] = []
once_only seen (x ∷ xs) = let a = once_only seen xs in let b = x ∷ once_only (x ∷ seen) xs in cond (is_in x seen) a b

-- all added up
unfoldable pub total : List ℕ → ℕ
total [] = 0
total (x ∷ xs) = x + total xs

-- sorted by id, once each
unfoldable pub rising : List ℕ → List ℕ
rising xs = sort ltb (once_only [] xs)

-- the list cut into k groups of g
unfoldable pub groups : ℕ → ℕ → List ℕ → List (List ℕ)
groups zero g xs = []
groups (suc k) g xs = take g xs ∷ groups k g (drop g xs)

module _ {A : Type 0} where
  -- `new` over the front of `old`: what lies beyond is untouched
  unfoldable pub over : List A → List A → List A
  over new old = new ++ drop (length new) old

  -- the first `room` places are z: what lies beyond is untouched
  unfoldable pub cleared : A → ℕ → List A → List A
  cleared z room old = replicate room z ++ drop room old
