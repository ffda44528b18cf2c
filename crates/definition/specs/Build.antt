-- Part 7. Open, close, whole build.
use Rattle.std.specs.Prelude.{ℕ, zero, suc, ◌*◌, cond, List, [], ◌∷◌, ltb, length, take, drop}
use Rattle.definition.specs.Lists.{rising}
use Rattle.definition.specs.Tables.{row, ids, padded, table_of}
use Rattle.definition.specs.Slack.{slack}
use Rattle.definition.specs.Batch.{Setting, prune_ids, wide_ids, batch}

-- opening rows copied to wide ones
unfoldable pub open' : ℕ → ℕ → List ℕ → List ℕ
open' n degree opening = table_of n (λ i. padded (slack degree) (ids (row degree opening i)))

-- a row longer than degree is pruned, from its ids in rising order; the others are copied unaltered
unfoldable pub closed_ids : Setting → ℕ → List ℕ → List ℕ
closed_ids g i xs = let p = prune_ids g i (rising xs) in cond (ltb g.degree (length xs)) p xs

unfoldable pub close : Setting → List ℕ → List ℕ
close g wide = table_of g.n (λ i. padded g.degree (closed_ids g i (wide_ids g wide i)))

unfoldable pub batch_size : ℕ
batch_size = 256

-- the order in runs of 256, the last shorter, with as many groups of seeds
unfoldable pub batches : Setting → ℕ → ℕ → ℕ → List ℕ → List ℕ → List ℕ → List ℕ
batches g start extra zero order seeds wide = wide
batches g start extra (suc fuel) [] seeds wide = wide
batches g start extra (suc fuel) (u ∷ us) seeds wide =
    batches g start extra fuel (drop batch_size (u ∷ us)) (drop (batch_size * extra) seeds)
    (batch g start extra (take batch_size (u ∷ us)) (take (batch_size * extra) seeds) wide)

-- the wide table as after the last run
unfoldable pub built : Setting → ℕ → ℕ → List ℕ → List ℕ → List ℕ → List ℕ
built g start extra order seeds opening = batches g start extra (length order) order seeds (open' g.n g.degree opening)
