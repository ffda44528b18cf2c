-- `increment_of` meets its contract.
use Rattle.definition.specs.Floats.{one_point_two}
use Rattle.definition.specs.Prune.{increment}
use Rattle.prune.proofs.increment_of.Goals as goal

pub returns : goal.returns
unfolding increment one_point_two
returns c = c.smaller.ensures
