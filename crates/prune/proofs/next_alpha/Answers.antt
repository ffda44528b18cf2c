-- `next_alpha` meets its contract.
use Rattle.definition.specs.Floats.{times}
use Rattle.definition.specs.Prune.{next_alpha}
use Rattle.prune.proofs.next_alpha.Goals as goal

pub returns : goal.returns
unfolding next_alpha times
returns c = rw (← c.increment_of.ensures) c.smaller.ensures
