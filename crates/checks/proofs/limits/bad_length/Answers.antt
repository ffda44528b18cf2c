-- `bad_length` meets its contract.
use Rattle.std.proofs.Common.{refl}
use Rattle.checks.specs.Lengths.{wrong_length}
use Rattle.checks.proofs.limits.bad_length.Goals as goal

pub returns : goal.returns
unfolding wrong_length
returns c = refl
