-- `bad_beam` meets its contract.
use Rattle.std.proofs.Common.{refl}
use Rattle.definition.specs.Refusals.{bad_beam}
use Rattle.checks.proofs.limits.bad_beam.Goals as goal

pub returns : goal.returns
unfolding bad_beam
returns c = refl
