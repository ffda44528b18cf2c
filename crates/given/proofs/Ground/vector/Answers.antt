-- `vector` meets its contract: the part that it lends is the entry's vector.
use mathlib.Core.Path.{refl}
use native.Mathlib.Nat.{add-sub_cancel_left}
use Rattle.definition.specs.Metric.{vector}
use Rattle.given.proofs.Ground.vector.Goals as goal

pub returns-clause-is : goal.returns-clause-is
unfolding vector
returns-clause-is c = rw add-sub_cancel_left refl
