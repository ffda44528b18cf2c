-- How many searches an accepted batch and an accepted whole build make, and the epoch that they come to.
use Rattle.std.specs.Prelude.{ℕ, ◌*◌, ◌≡◌, length}
use Rattle.std.proofs.Common.{arith, ap}
use Rattle.definition.specs.Build.{open'}
use Rattle.definition.specs.Refusals.{BatchCall, BuildCall, batch_number, build_number}
use Rattle.definition.specs.Outcome.{setting_of}
use Rattle.theory.specs.build.Walks.{batch-walks, run-walks}
use Rattle.accepted.specs.Checks.{extra_good}
use Rattle.accepted.specs.Build.{batch-accepted, build_accepted}
use Rattle.promises.specs.Walking.{batch_walks_of, build_walks_of, Walked, walked}

pub batch-walked : (c : BatchCall) → batch_number c ≡ 0 → Walked (batch_walks_of c) (length c.nodes) c.params.extra 256
batch-walked c e =
    let a = batch-accepted c e in
    let size = a.seeds.size in
    let many = batch-walks c.wide c.start c.params.extra c.nodes c.seeds size in
    walked (batch_walks_of c) (length c.nodes) c.params.extra 256 (omega arith) a.nodes_few (omega arith)
    (extra_good c.n c.params.extra a.seeds.limits).0

pub build_walked : (c : BuildCall) → build_number c ≡ 0 → Walked (build_walks_of c) c.n c.params.extra 65536
build_walked c e =
    let a = build_accepted c e in
    let g = setting_of c.n c.dim c.vectors c.params in
    let opened = open' c.n c.params.degree c.opening in
    let size = a.seeds.size in
    let order = a.order_is in
    let same : length c.order * c.params.extra ≡ c.n * c.params.extra = ap (λ (k : ℕ). k * c.params.extra) order in
    let many = run-walks g c.start c.params.extra (length c.order) c.order c.seeds opened (omega arith) (omega arith) in
    walked (build_walks_of c) c.n c.params.extra 65536 (omega arith) a.entries.nodes (omega arith)
    (extra_good c.n c.params.extra a.seeds.limits).0
