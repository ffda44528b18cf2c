-- `measure` meets its contract. The query is the node's vector.
use Rattle.definition.specs.Metric.{from_query, between}
use Rattle.prune_fit.proofs.measure.Goals as goal

pub returns : goal.returns
unfolding between from_query
returns c = rw c.vector.ensures.is at c.from_query_each.ensures
