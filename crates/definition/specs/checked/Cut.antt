-- Pruning's cut at 750 comes before the node itself and repeats are dropped. The pool of node 0 holds the node, `near` times entry 1 at distance 1, and
-- entry 2 at distance 4 last: with 749 near ones it is the 751st, and lost; with 748 it is kept.
use Rattle.std.specs.Prelude.{ℕ, List, [], ◌∷◌, ◌++◌, ◌≡◌, refl, replicate}
use Rattle.definition.specs.Metric.{between}
use Rattle.definition.specs.Beam.{item}
use Rattle.definition.specs.Floats.{one}
use Rattle.definition.specs.Prune.{prune}
use Rattle.definition.specs.checked.Opened.{opened}

unfoldable pub crowded : ℕ → List ℕ
crowded near =
    prune (between 2 (0 ∷ 0 ∷ 1 ∷ 0 ∷ 0 ∷ 2 ∷ [])) 4 one 0 (item 0 0 ∷ replicate near (item 1 1) ++ (item 4 2 ∷ []))

pub cut_right : crowded 749 ≡ 1 ∷ []
unfolding crowded opened
cut_right = refl

pub uncut_right : crowded 748 ≡ 1 ∷ 2 ∷ []
unfolding crowded opened
uncut_right = refl
