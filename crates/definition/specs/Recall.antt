-- 1/13. Recall: an exhaustive search, which has all n distances, so that its answers are the true nearest; and how many of these a search brings.
use Rattle.std.specs.Prelude.{ℕ, List, map, eqb, length}
use Rattle.definition.specs.Lists.{keep, is_in, upto}
use Rattle.definition.specs.Beam.{Item}
use Rattle.definition.specs.Prune.{measured}
use Rattle.definition.specs.Search.{ranked, answers}

-- the k nearest of all n entries, in the answers' order
unfoldable pub nearest : (ℕ → ℕ) → ℕ → ℕ → List Item
nearest d n k = ranked k (measured d (upto n))

-- how many of xs are among ys
unfoldable pub in_both : List ℕ → List ℕ → ℕ
in_both xs ys = length (keep (λ x. is_in x ys) xs)

-- of one query: how many ids the search's answers have in common with the k nearest
unfoldable pub hits : (ℕ → ℕ) → (ℕ → List ℕ) → ℕ → ℕ → ℕ → ℕ → ℕ
hits d rows n beam start k = in_both (map (λ a. a.id) (answers d rows n beam start k)) (map (λ a. a.id) (nearest d n k))

-- how many of the numbers are m
unfoldable pub count_of : ℕ → List ℕ → ℕ
count_of m xs = length (keep (λ x. eqb x m) xs)
