-- `between`.
use Rattle.std.proofs.Math.Nat.{add-sub_cancel_left}
use Rattle.definition.specs.Metric.{between, from_query, vector}
use Rattle.metric.proofs.between.Goals as goal

pub returns : goal.returns
unfolding between from_query vector
returns c = rw (add-sub_cancel_left) at c.from_query.ensures
