-- `metric::from_query_each` meets its contract. The loop's invariant: the distances of the entries passed so far are written. Assumes nothing.
use Rattle.definition.specs.Metric.{from_query}
use Rattle.metric.proofs.Each.{Measured}
use Rattle.metric.proofs.from_query_each.Given as goal

abbrev pub invariant-loop-k : goal.invariant-loop-k
invariant-loop-k l = Measured (from_query l.dim l.vectors l.query) l.ids l.dists l.k
