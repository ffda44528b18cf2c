-- `check_fit` meets its contract.
use Rattle.std.proofs.Common.{sym, ◌∙◌, arith}
use Rattle.std.proofs.lemmas.Grind.{common_steps}
use Rattle.definition.specs.Refusals.{◌when◌else◌}
use Rattle.accepted.specs.Checks.{count_good, degree_good}
use Rattle.checks_number.specs.Tests.{number_of}
use Rattle.checks_number.specs.FitNumber.{fit_numbered}
use Rattle.checks_number.proofs.check_fit.Goals as goal

pub bad_searched-requires : goal.bad_searched-requires
bad_searched-requires c =
    ((count_good _ (sym c.bad_count.ensures ∙ c.if-bad_count.false)).1, (degree_good _ (sym c.bad_degree.ensures ∙ c.if-bad_degree.false)).few)

pub returns-then-bad_count : goal.returns-then-bad_count
unfolding number_of ◌when◌else◌
returns-then-bad_count c = fit_numbered (grind (arith, common_steps))

pub returns-then-bad_degree : goal.returns-then-bad_degree
unfolding number_of ◌when◌else◌
returns-then-bad_degree c = fit_numbered (grind (arith, common_steps))

pub returns-then-bad_searched : goal.returns-then-bad_searched
unfolding number_of ◌when◌else◌
returns-then-bad_searched c = fit_numbered (grind (arith, common_steps))

pub returns : goal.returns
unfolding number_of ◌when◌else◌
returns c = fit_numbered (grind (arith, common_steps))
