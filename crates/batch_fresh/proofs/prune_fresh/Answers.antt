-- `prune_fresh` meets its contract: the pool and the factors are lent to pruning, then the row's place to its writer.
use Rattle.batch_fresh.proofs.Pruning.{fresh}
use Rattle.batch_fresh.proofs.prune_fresh.Goals as goal

pub returns : goal.returns
returns c =
    let w = c.prune_neighbors in
    fresh c.requires c.pool_at-pool.ensures c.pool_dists_at-dists.ensures c.args.node w.new.row w.ensures c.put_row.new.table w.new.factors
    c.fresh_row_at-at.ensures w.auto.row c.put_row.auto.table w.auto.factors c.put_row.ensures
