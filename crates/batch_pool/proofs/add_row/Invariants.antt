-- `add_row`. The loop's invariant: the ids of the words before place k have been added.
use Rattle.definition.specs.Metric.{from_query}
use Rattle.batch_pool.specs.Pooled.{pool_as}
use Rattle.batch_pool.proofs.Rows.{RowSoFar}
use Rattle.batch_pool.proofs.add_row.Given as goal

abbrev pub invariant-loop-id : goal.invariant-loop-id
invariant-loop-id l =
    RowSoFar l.n l.row (from_query l.dim l.vectors l.query) (pool_as l.initial.pool l.stamp 0) (pool_as l.pool l.stamp l.len) l.id-index
