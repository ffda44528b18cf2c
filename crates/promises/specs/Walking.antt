-- "A batch runs at most 256 x 17 searches from an epoch of 1, and a whole build at most 65,536 x 17." How many greedy searches a batch and a whole build make
-- that are accepted: by the definition one from the start and one from each seed, for each listed node. And so the greatest epoch of any call: far below the
-- last that a word can hold, so that it is an ordinary sum.
use Rattle.std.specs.Prelude.{ℕ, ◌+◌, ◌*◌, ◌≤◌, ◌<◌, ◌≡◌, refl, List, [], ◌∷◌, length}
use Rattle.std.proofs.Common.{mul-one, mul-add, arith, ap, ◌∙◌}
use Rattle.definition.specs.Lists.{groups}
use Rattle.definition.specs.Build.{open'}
use Rattle.definition.specs.Refusals.{BatchCall, BuildCall}
use Rattle.definition.specs.Outcome.{setting_of}
use Rattle.theory.specs.build.Walks.{Walk, walk, node_walks, batch_walks, run_walks, epoch_after, epoch_end, walks_most}

-- the searches of a batch, and of a whole build, in their order
abbrev pub batch_walks_of : BatchCall → List Walk
batch_walks_of c = batch_walks c.wide c.start c.nodes (groups (length c.nodes) c.params.extra c.seeds)

abbrev pub build_walks_of : BuildCall → List Walk
build_walks_of c =
    run_walks (setting_of c.n c.dim c.vectors c.params) c.start c.params.extra (length c.order) c.order c.seeds
    (open' c.n c.params.degree c.opening)

-- of so many nodes, which are at most `most`, with so many seeds each: how many they are, and the epoch that they come to
pub record Walked (walks : List Walk) (nodes extra most : ℕ) : Type 0 where
  pub count : length walks ≡ nodes * (1 + extra)
  pub few : length walks ≤ most * 17
  pub epoch_most : epoch_after 1 walks ≤ 1 + most * 17
  pub epoch_fits : epoch_after 1 walks < epoch_end

pub walked : (walks : List Walk) (nodes extra most : ℕ) → length walks ≡ nodes + nodes * extra → nodes ≤ most → most ≤ 65536 → extra ≤ 16
    → Walked walks nodes extra most
walked walks nodes extra most e h low k =
    let each : nodes * (1 + extra) ≡ nodes + nodes * extra = mul-add nodes 1 extra ∙ ap (λ (m : ℕ). m + nodes * extra) (mul-one nodes) in
    let all = walks_most h k in
    record { count = omega arith; few = omega arith; epoch_most = omega arith; epoch_fits = omega arith }

-- two nodes with two seeds each, from start 9: in this order
pub two_nodes : (wide : List ℕ) → batch_walks wide 9 (3 ∷ 5 ∷ []) (groups 2 2 (1 ∷ 2 ∷ 7 ∷ 4 ∷ []))
    ≡ walk wide 3 9 ∷ walk wide 3 1 ∷ walk wide 3 2 ∷ walk wide 5 9 ∷ walk wide 5 7 ∷ walk wide 5 4 ∷ []
unfolding batch_walks node_walks groups
two_nodes wide = refl
