-- `check_open` meets its contract.
use Rattle.std.proofs.Common.{sym, ◌∙◌, arith}
use Rattle.std.proofs.lemmas.Grind.{common_steps}
use Rattle.definition.specs.Refusals.{◌when◌else◌}
use Rattle.accepted.specs.Checks.{count_good, degree_good}
use Rattle.checks_number.specs.Tests.{number_of}
use Rattle.checks_number.specs.BuildNumbers.{open_numbered}
use Rattle.checks_number.proofs.check_open.Goals as goal

pub bad_table-requires : goal.bad_table-requires
bad_table-requires c = (
  (count_good _ (sym c.bad_count.ensures ∙ c.if-bad_count.false)).1,
  (let d = degree_good _ (sym c.bad_degree.ensures ∙ c.if-bad_degree.false) in omega arith),
)

pub bad_wide_length-requires : goal.bad_wide_length-requires
bad_wide_length-requires c =
    ((count_good _ (sym c.bad_count.ensures ∙ c.if-bad_count.false)).1, (degree_good _ (sym c.bad_degree.ensures ∙ c.if-bad_degree.false)).few)

pub returns-then-bad_count : goal.returns-then-bad_count
unfolding number_of ◌when◌else◌
returns-then-bad_count c = open_numbered (grind (arith, common_steps))

pub returns-then-bad_degree : goal.returns-then-bad_degree
unfolding number_of ◌when◌else◌
returns-then-bad_degree c = open_numbered (grind (arith, common_steps))

pub returns-then-bad_table : goal.returns-then-bad_table
unfolding number_of ◌when◌else◌
returns-then-bad_table c = open_numbered (grind (arith, common_steps))

pub returns-then-bad_wide_length : goal.returns-then-bad_wide_length
unfolding number_of ◌when◌else◌
returns-then-bad_wide_length c = open_numbered (grind (arith, common_steps))

pub returns : goal.returns
unfolding number_of ◌when◌else◌
returns c = open_numbered (grind (arith, common_steps))
