-- `collect_pool`. The row, the walk from the start and those from the seeds, one after another. The row goes into the pool's region, lent at the layout's
-- offsets.
use native.Mathlib.Omega.{arith}
use Rattle.theory.specs.build.Walks.{node_walks_lem}
use Rattle.batch_pool.proofs.Growing.{grown_part, grown_pool}
use Rattle.batch_pool.proofs.collect_pool.Goals as goal

pub add_walk-c-requires-clause-epoch_bound : goal.add_walk-c-requires-clause-epoch_bound
add_walk-c-requires-clause-epoch_bound c =
    let a = c.args in
    let row = grown_part _ _ c.requires.seeds_bound.1 c.pool_at-pool_at.ensures c.pool_end-pool_end.ensures c.add_row-len.auto.pool c.add_row-len.ensures in
    (omega (arith, node_walks_lem a.wide.now a.start a.node a.seeds.now, c.requires.seeds_bound.0), row.holding)

pub add_walks-requires-clause-seeds_bound : goal.add_walks-requires-clause-seeds_bound
add_walks-requires-clause-seeds_bound c =
    let a = c.args in (
      omega (arith, node_walks_lem a.wide.now a.start a.node a.seeds.now, c.requires.seeds_bound.0, c.add_walk-c.ensures.epoch_value),
      c.add_walk-c.ensures.grown.holding,
    )

pub returns : goal.returns
returns c =
    let a = c.args in
    let row = grown_part _ _ c.requires.seeds_bound.1 c.pool_at-pool_at.ensures c.pool_end-pool_end.ensures c.add_row-len.auto.pool c.add_row-len.ensures in
    record {
      grown = grown_pool _ _ _ _ _ _ _ _ _ _ _ _ _ row c.add_walk-c.ensures.grown c.add_walks.ensures.grown;
      epoch_value = omega (arith, node_walks_lem a.wide.now a.start a.node a.seeds.now, c.add_walk-c.ensures.epoch_value, c.add_walks.ensures.epoch_value);
    }
