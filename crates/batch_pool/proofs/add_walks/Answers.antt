-- `add_walks`. The loop's invariant: the walks from the first k seeds have been made.
use Prim.Native.Nat.{◌<◌}
use native.Mathlib.Omega.{arith}
use lib.ListN.{length}
use Rattle.definition.specs.Metric.{from_query}
use Rattle.batch_pool.specs.Regions.{visits}
use Rattle.batch_pool.proofs.Growing.{grown_none, grown_then, joined-none, joined_next}
use Rattle.batch_pool.proofs.add_walks.Goals as goal

pub loop-seed-init : goal.loop-seed-init
loop-seed-init c =
    let d = from_query c.args.p.dim c.args.vectors.now c.args.query.now in
    (omega arith, rw (joined-none (visits c.args.p d c.args.wide.now)) (grown_none _ _ _ _ c.requires.seeds_bound.1))

pub loop-seed-preserved : goal.loop-seed-preserved
loop-seed-preserved c =
    let d = from_query c.args.p.dim c.args.vectors.now c.args.query.now in
    let h : c.loop-seed.seed-index < length c.args.seeds.now = omega arith in (
      omega (arith, c.loop-seed.invariant.0, c.add_walk-s.ensures.epoch_value),
      rw (joined_next (visits c.args.p d c.args.wide.now) c.args.seeds.now c.loop-seed.seed-index h)
          (grown_then _ _ _ _ _ _ _ _ _ c.loop-seed.invariant.1 c.add_walk-s.ensures.grown),
    )
