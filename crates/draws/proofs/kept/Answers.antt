-- `kept` meets its contract: the state as it came, and the refused answer.
use Rattle.std.proofs.Common.{ap}
use Rattle.draws.specs.Says.{stepped}
use Rattle.draws.proofs.kept.Goals as goal

pub returns : goal.returns
returns c = ap (stepped _) c.refused_for-answer.ensures
