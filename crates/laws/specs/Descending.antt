-- Items that descend, as in a beam: none is nearer than one that comes after it. And `insert`, item by item.
use Rattle.std.specs.Prelude.{◌≡◌, Bool, true, false, cond, List, [], ◌∷◌}
use Rattle.definition.specs.Lists.{place}
use Rattle.definition.specs.Beam.{Item, nearer, worse, insert}
use Rattle.laws.specs.All.{All}

abbrev pub Desc : List Item → Type 0
Desc [] = Unit {0}
Desc (y ∷ ys) = All (λ (z : Item). nearer y z ≡ false) ys × Desc ys

pub all_insert : (P : Item → Type 0) (x : Item) (l : List Item) → P x → All P l → All P (insert x l)
unfolding insert place worse
all_insert P x [] p a = (p, tt)
all_insert P x (y ∷ ys) p a = go (nearer x y) (all_insert P x ys p a.1)
  where
    go : (t : Bool) → All P (insert x ys) → All P (cond t (y ∷ insert x ys) (x ∷ y ∷ ys))
    go true r = (a.0, r)
    go false r = (p, (a.0, a.1))
