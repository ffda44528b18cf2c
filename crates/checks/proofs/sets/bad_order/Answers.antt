-- `bad_order` meets its contract.
use Rattle.std.proofs.Common.{arith}
use Rattle.std.proofs.lemmas.Bool.Decides.{nat_tests}
use Rattle.definition.specs.Refusals.{bad_order}
use Rattle.checks.specs.Below.{all_below, below-small}
use Rattle.checks.proofs.sets.bad_order.Goals as goal

pub has_repeat-requires : goal.has_repeat-requires
has_repeat-requires c = below-small _ _ c.requires (grind (arith, nat_tests))

pub returns-then-not-all_below : goal.returns-then-not-all_below
unfolding bad_order all_below
returns-then-not-all_below c = grind (arith, nat_tests)

pub returns-else-not-all_below : goal.returns-else-not-all_below
unfolding bad_order all_below
returns-else-not-all_below c = grind (arith, nat_tests)
