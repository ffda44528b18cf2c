-- `smaller` meets its contract.
use Rattle.definition.specs.Floats.{smaller}
use Rattle.prune.proofs.smaller.Goals as goal

pub returns-then-y-x : goal.returns-then-y-x
unfolding smaller
returns-then-y-x c = rw c.if-y-x.true

pub returns-else-y-x : goal.returns-else-y-x
unfolding smaller
returns-else-y-x c = rw c.if-y-x.false
