-- `bad_dim` meets its contract.
use Rattle.std.proofs.Common.{arith}
use Rattle.std.proofs.lemmas.Bool.Decides.{nat_tests}
use Rattle.definition.specs.Refusals.{bad_dim}
use Rattle.checks.proofs.limits.bad_dim.Goals as goal

pub returns-then-dim-eq0 : goal.returns-then-dim-eq0
unfolding bad_dim
returns-then-dim-eq0 c = grind (arith, nat_tests)

pub returns-else-dim-eq0 : goal.returns-else-dim-eq0
unfolding bad_dim
returns-else-dim-eq0 c = grind (arith, nat_tests)
