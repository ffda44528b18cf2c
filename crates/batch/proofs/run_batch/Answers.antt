-- `run_batch` meets its contract: stamps cleared, fresh rows, merge.
use Rattle.batch.proofs.Running.{fresh_asks, merge_asks, batch_run}
use Rattle.batch.proofs.run_batch.Goals as goal

pub fresh_rows-last-requires : goal.fresh_rows-last-requires
fresh_rows-last-requires c =
    let asks = fresh_asks c.requires c.stamps_at-a.ensures c.pool_dists_at-e.ensures
    _ c.clear_words.ensures in
    record {
      walk_limits = asks.0;
      wide = asks.1.0;
      listable = asks.1.1.0;
      between = asks.1.1.1.0;
      most_factors_in_bounds = asks.1.1.1.1.0;
      seeds_bound = asks.1.1.1.1.1;
    }

pub merge-requires : goal.merge-requires
merge-requires c =
    merge_asks c.requires c.stamps_at-a.ensures c.pool_dists_at-e.ensures
    _ c.clear_words.ensures c.fresh_rows-last.ensures.fresh_rows

pub returns : goal.returns
returns c =
    let made = c.fresh_rows-last.ensures in
    batch_run c.requires c.stamps_at-a.ensures c.pool_dists_at-e.ensures
    _ c.clear_words.ensures made.fresh_rows made.marks made.value c.merge.ensures
