-- `bad_start` meets its contract.
use Rattle.std.proofs.Common.{refl}
use Rattle.definition.specs.Refusals.{bad_start}
use Rattle.checks.proofs.limits.bad_start.Goals as goal

pub returns : goal.returns
unfolding bad_start
returns c = refl
