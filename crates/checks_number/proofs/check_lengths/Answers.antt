-- `check_lengths` meets its contract.
use Rattle.std.proofs.Common.{arith}
use Rattle.std.proofs.lemmas.Grind.{common_steps}
use Rattle.definition.specs.Refusals.{◌when◌else◌}
use Rattle.std.proofs.lemmas.Bool.Decides.{nat_tests}
use Rattle.checks_number.specs.Tests.{number_of}
use Rattle.checks_number.proofs.check_lengths.Goals as goal

pub returns-then-search_short : goal.returns-then-search_short
unfolding number_of ◌when◌else◌
returns-then-search_short c = grind (arith, common_steps, nat_tests)

pub returns-then-asked : goal.returns-then-asked
unfolding number_of ◌when◌else◌
returns-then-asked c = grind (arith, common_steps, nat_tests)

pub returns : goal.returns
unfolding number_of ◌when◌else◌
returns c = grind (arith, common_steps, nat_tests)
