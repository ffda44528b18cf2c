-- `filled` meets its contract: the state it is given, and the answer of a success.
use Rattle.std.proofs.Common.{ap}
use Rattle.draws.specs.Says.{stepped}
use Rattle.draws.proofs.filled.Goals as goal

pub returns : goal.returns
returns c = ap (stepped _) c.done-answer.ensures
