-- `from_query`.
use Rattle.std.proofs.Math.Nat.{add-sub_cancel_left}
use Rattle.definition.specs.Metric.{from_query, vector}
use Rattle.metric.proofs.from_query.Goals as goal

pub returns : goal.returns
unfolding from_query vector
returns c = rw (add-sub_cancel_left) at c.summed.ensures
