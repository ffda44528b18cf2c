-- `base` meets its contract: a fresh row is lent by its definition, a row of the wide table by a law.
use Rattle.batch_affected.proofs.Gathering.{base_wide}
use Rattle.batch_affected.proofs.base.Goals as goal

pub returns-in-None : goal.returns-in-None
returns-in-None c = rw c.in-None.is (base_wide _ _ _)
