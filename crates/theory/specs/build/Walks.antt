-- The walks of a batch and of a whole build: each greedy search that the definition makes, in its order. How many they are; and the epoch that they come to,
-- since a call begins with epoch 1 and each walk adds 1.
use Rattle.std.specs.Prelude.{ℕ, zero, suc, ◌+◌, ◌*◌, ◌≤◌, ◌<◌, ◌≡◌, refl, List, [], ◌∷◌, ◌++◌, map, length, take, drop}
use Rattle.std.proofs.Common.{suc-mul, zero-mul, mul-le-mul, arith, ap, length-append, length-take, length-drop}
use Rattle.std.proofs.lemmas.List.{length-map}
use Rattle.definition.specs.Lists.{joined, rising, groups}
use Rattle.definition.specs.Batch.{Setting, wide_ids, collected, pool, batch}
use Rattle.definition.specs.Build.{batch_size}
use Rattle.theory.specs.build.Stretches.{seeds_cut}

-- one walk: over which wide table, for which node, and where it begins
pub record Walk : Type 0 where
  pub wide : List ℕ
  pub node : ℕ
  pub from : ℕ

abbrev pub walk : List ℕ → ℕ → ℕ → Walk
walk wide node from = record { wide = wide; node = node; from = from }

-- all that it visits, by the definition
unfoldable pub visited_by : Setting → Walk → List ℕ
visited_by g w = collected g w.wide w.node w.from

-- of one listed node: one walk from the start, and one from each of its seeds
unfoldable pub node_walks : List ℕ → ℕ → ℕ → List ℕ → List Walk
node_walks wide start node seeds = map (walk wide node) (start ∷ seeds)

-- of a batch: those of each listed node with its group, as its fresh rows are made
unfoldable pub batch_walks : List ℕ → ℕ → List ℕ → List (List ℕ) → List Walk
batch_walks wide start [] gs = []
batch_walks wide start (u ∷ us) [] = []
batch_walks wide start (u ∷ us) (s ∷ gs) = node_walks wide start u s ++ batch_walks wide start us gs

-- of the runs of a whole build: each over the table that the run before left
unfoldable pub run_walks : Setting → ℕ → ℕ → ℕ → List ℕ → List ℕ → List ℕ → List Walk
run_walks g start extra zero order seeds wide = []
run_walks g start extra (suc fuel) [] seeds wide = []
run_walks g start extra (suc fuel) (u ∷ us) seeds wide =
    let nodes = take batch_size (u ∷ us) in
    let own = take (batch_size * extra) seeds in
    batch_walks wide start nodes (groups (length nodes) extra own)
    ++ run_walks g start extra fuel (drop batch_size (u ∷ us)) (drop (batch_size * extra) seeds) (batch g start extra nodes own wide)

-- ---- they are the definition's: the pool of a node is its row and what its walks visit

pub pool_by_walks : (g : Setting) (wide : List ℕ) (start node : ℕ) (seeds : List ℕ)
    → pool g wide start node seeds ≡ rising (wide_ids g wide node ++ joined (map (visited_by g) (node_walks wide start node seeds)))
unfolding pool node_walks visited_by
pool_by_walks g wide start node seeds =
    ap (λ (l : List (List ℕ)). rising (wide_ids g wide node ++ joined l)) (visits (start ∷ seeds))
  where
    visits : (froms : List ℕ) → map (collected g wide node) froms ≡ map (visited_by g) (map (walk wide node) froms)
    visits [] = refl
    visits (f ∷ fs) = ap (λ (l : List (List ℕ)). collected g wide node f ∷ l) (visits fs)

-- ---- how many they are: one for each node, and one for each seed

pub node_walks_lem : (wide : List ℕ) (start node : ℕ) (seeds : List ℕ) → length (node_walks wide start node seeds) ≡ 1 + length seeds
unfolding node_walks
node_walks_lem wide start node seeds = omega (arith, length-map (start ∷ seeds) (walk wide node))

pub batch-walks : (wide : List ℕ) (start extra : ℕ) (nodes seeds : List ℕ) → length seeds ≡ length nodes * extra
    → length (batch_walks wide start nodes (groups (length nodes) extra seeds)) ≡ length nodes + length seeds
unfolding batch_walks groups
batch-walks wide start extra [] seeds h = omega (arith, zero-mul extra)
batch-walks wide start extra (u ∷ us) seeds h =
    omega (
      arith,
      length-append (node_walks wide start u (take extra seeds)) (batch_walks wide start us (groups (length us) extra (drop extra seeds))),
      node_walks_lem wide start u (take extra seeds),
      length-take extra seeds,
      length-drop extra seeds,
      suc-mul (length us) extra,
      batch-walks wide start extra us (drop extra seeds) (omega (arith, length-drop extra seeds, suc-mul (length us) extra)),
    )

pub run-walks : (g : Setting) (start extra fuel : ℕ) (order seeds wide : List ℕ) → length order ≤ fuel → length seeds ≡ length order * extra
    → length (run_walks g start extra fuel order seeds wide) ≡ length order + length seeds
unfolding run_walks batch_size
run-walks g start extra zero [] seeds wide f h = omega (arith, zero-mul extra)
run-walks g start extra zero (u ∷ us) seeds wide f h = absurd (omega arith)
run-walks g start extra (suc fuel) [] seeds wide f h = omega (arith, zero-mul extra)
run-walks g start extra (suc fuel) (u ∷ us) seeds wide f h =
    let order = u ∷ us in
    let nodes = take 256 order in
    let own = take (256 * extra) seeds in
    let later = drop (256 * extra) seeds in
    let cut = seeds_cut extra 256 order seeds h in
    let left = length-drop 256 order in
    let next = batch g start extra nodes own wide in
    omega (
      arith,
      length-append (batch_walks wide start nodes (groups (length nodes) extra own)) (run_walks g start extra fuel (drop 256 order) later next),
      batch-walks wide start extra nodes own cut.taken,
      run-walks g start extra fuel (drop 256 order) later next (omega arith) cut.dropped,
      length-take 256 order,
      left,
      length-take (256 * extra) seeds,
      length-drop (256 * extra) seeds,
    )

-- ---- the epoch: 1 when a call begins, and each walk adds 1

abbrev pub epoch_after : ℕ → List Walk → ℕ
epoch_after epoch walks = epoch + length walks

-- the last that a word can hold
abbrev pub epoch_end : ℕ
epoch_end = 0xFFFFFFFF

-- at most 16 seeds a node: so many walks
pub walks_most : {nodes most extra : ℕ} → nodes ≤ most → extra ≤ 16 → nodes + nodes * extra ≤ 17 * most
walks_most h k = omega (arith, mul-le-mul h k)

-- at most 65,536 nodes: no call comes to that epoch, or near it
pub epochs_fit : {nodes extra : ℕ} → nodes ≤ 65536 → extra ≤ 16 → 1 + (nodes + nodes * extra) < epoch_end
epochs_fit h k = omega (arith, walks_most h k)
