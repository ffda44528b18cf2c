-- `bad_pivots` meets its contract.
use Rattle.std.proofs.Common.{arith}
use Rattle.std.proofs.lemmas.Bool.Decides.{nat_tests}
use Rattle.definition.specs.Refusals.{bad_pivots}
use Rattle.checks.specs.Below.{all_below}
use Rattle.checks.proofs.sets.bad_pivots.Goals as goal

pub returns-then-pivots-gt8 : goal.returns-then-pivots-gt8
unfolding bad_pivots all_below
returns-then-pivots-gt8 c = grind (arith, nat_tests)

pub returns-else-pivots-gt8 : goal.returns-else-pivots-gt8
unfolding bad_pivots all_below
returns-else-pivots-gt8 c = grind (arith, nat_tests)
