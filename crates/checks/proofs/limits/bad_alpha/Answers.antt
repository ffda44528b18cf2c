-- `bad_alpha` meets its contract.
use Rattle.std.proofs.Common.{refl}
use Rattle.definition.specs.Refusals.{bad_alpha}
use Rattle.definition.specs.Floats.{above, four}
use Rattle.checks.proofs.limits.bad_alpha.Goals as goal

pub returns : goal.returns
unfolding bad_alpha above four
returns c = refl
