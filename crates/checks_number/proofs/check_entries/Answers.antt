-- `check_entries` meets its contract.
use Rattle.std.proofs.Common.{sym, ◌∙◌, arith}
use Rattle.std.proofs.lemmas.Grind.{common_steps}
use Rattle.definition.specs.Refusals.{◌when◌else◌}
use Rattle.accepted.specs.Checks.{dim_good}
use Rattle.checks_number.specs.Tests.{number_of}
use Rattle.checks_number.proofs.check_entries.Goals as goal

pub bad_vectors-requires : goal.bad_vectors-requires
bad_vectors-requires c = (dim_good _ (sym c.bad_dim.ensures ∙ c.if-bad_dim.false)).1

pub returns-then-bad_dim : goal.returns-then-bad_dim
unfolding number_of ◌when◌else◌
returns-then-bad_dim c = grind (arith, common_steps)

pub returns-then-bad_vectors : goal.returns-then-bad_vectors
unfolding number_of ◌when◌else◌
returns-then-bad_vectors c = grind (arith, common_steps)

pub returns : goal.returns
unfolding number_of ◌when◌else◌
returns c = grind (arith, common_steps)
