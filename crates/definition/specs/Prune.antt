-- Part 5. Pruning, over any distance `pair` between entries. The pool's items carry their distance from the node.
use Rattle.std.specs.Prelude.{ℕ, zero, suc, ◌-◌, cond, List, [], ◌∷◌, ◌++◌, map, length, take, replicate, Float}
use Rattle.definition.specs.Lists.{sort, is_in}
use Rattle.definition.specs.Metric.{whole}
use Rattle.definition.specs.Beam.{Item, item, nearer}
use Rattle.definition.specs.Floats.{nought, one, one_point_two, largest, larger, smaller, times, divided, above}

-- ids with their distance from the node
unfoldable pub measured : (ℕ → ℕ) → List ℕ → List Item
measured d xs = map (λ i. item (d i) i) xs

-- without the node itself and repeats; `seen` holds the node and the ids before
unfoldable pub unseen : List ℕ → List Item → List Item
unseen seen [] = []
unseen seen (c ∷ cs) = let a = unseen seen cs in let b = c ∷ unseen (c.id ∷ seen) cs in cond (is_in c.id seen) a b

unfoldable pub cut : ℕ
cut = 750

-- sort by distance, then id; cut at 750; only then drop the node itself and repeats
unfoldable pub candidates : ℕ → List Item → List Item
candidates node pool = unseen (node ∷ []) (take cut (sort nearer pool))

-- target = max(alpha, 1), where NaN acts as 1; increment = min(target, 1.2)
unfoldable pub target_of : Float → Float
target_of alpha = larger one alpha

unfoldable pub increment : Float → Float
increment target = smaller target one_point_two

-- after a round that does not stop: min(current x increment, target)
unfoldable pub next_alpha : Float → Float → Float
next_alpha target current = smaller (times current (increment target)) target

-- the quotient of an entry's distance by its distance p to the taken one, one rounding; f32::MAX when p is 0
unfoldable pub quotient : ℕ → ℕ → Float
quotient dist zero = largest
quotient dist (suc p) = divided (whole dist) (whole (suc p))

-- the taken entry shades a later one whose factor isn't above target
unfoldable pub shade : (ℕ → ℕ → ℕ) → Float → ℕ → Item → Float → Float
shade pair target taken c factor =
    let f = larger factor (quotient c.dist (pair c.id taken)) in
    cond (above factor target) factor f

unfoldable pub shade_all : (ℕ → ℕ → ℕ) → Float → ℕ → List Item → List Float → List Float
shade_all pair target taken [] fs = fs
shade_all pair target taken (c ∷ cs) [] = []
shade_all pair target taken (c ∷ cs) (f ∷ fs) = shade pair target taken c f ∷ shade_all pair target taken cs fs

-- what a round leaves: the ids that it took, in order, and the factors
pub record Round : Type 0 where
  pub took : List ℕ
  pub factors : List Float

unfoldable pub skip_one : Float → Round → Round
skip_one f r = record { took = r.took; factors = f ∷ r.factors }

unfoldable pub take_one : ℕ → Round → Round
take_one i r = record { took = i ∷ r.took; factors = largest ∷ r.factors }

-- One round over the candidates, with room for so many more ids. A factor above current is skipped; else the id is taken, its factor becomes
-- f32::MAX, and every later one is shaded. With no room left the round ends at once.
unfoldable pub round : (ℕ → ℕ → ℕ) → Float → Float → ℕ → List Item → List Float → Round
round pair target current room [] fs = record { took = []; factors = fs }
round pair target current room (c ∷ cs) [] = record { took = []; factors = [] }
round pair target current zero (c ∷ cs) (f ∷ fs) = record { took = []; factors = f ∷ fs }
round pair target current (suc room) (c ∷ cs) (f ∷ fs) =
    let skip = skip_one f (round pair target current (suc room) cs fs) in
    let keep = take_one c.id (round pair target current room cs (shade_all pair target c.id cs fs)) in
    cond (above f current) skip keep

-- The rounds, `fuel` at most. After a round: stop if current is at least target. For an alpha that is accepted there are at most 9, which `theory` proves.
unfoldable pub rounds : (ℕ → ℕ → ℕ) → Float → ℕ → Float → ℕ → List Item → List Float → List ℕ
rounds pair target zero current room cs fs = []
rounds pair target (suc fuel) current room cs fs =
    let r = round pair target current room cs fs in
    let more = r.took ++ rounds pair target fuel (next_alpha target current) (room - length r.took) cs r.factors in
    cond (above target current) more r.took

unfoldable pub most_rounds : ℕ
most_rounds = 9

-- the row that pruning gives: at most `degree` ids
unfoldable pub pruned_from : (ℕ → ℕ → ℕ) → ℕ → Float → List Item → List ℕ
pruned_from pair degree alpha cs = rounds pair (target_of alpha) most_rounds one degree cs (replicate (length cs) nought)

unfoldable pub prune : (ℕ → ℕ → ℕ) → ℕ → Float → ℕ → List Item → List ℕ
prune pair degree alpha node pool = pruned_from pair degree alpha (candidates node pool)
