-- `target_of` meets its contract.
use Rattle.definition.specs.Floats.{one}
use Rattle.definition.specs.Prune.{target_of}
use Rattle.prune.proofs.target_of.Goals as goal

pub returns : goal.returns
unfolding target_of one
returns c = c.larger.ensures
