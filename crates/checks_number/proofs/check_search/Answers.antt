-- `check_search` meets its contract.
use Rattle.std.proofs.Common.{sym, arith}
use Rattle.std.proofs.lemmas.Grind.{common_steps}
use Rattle.std.proofs.lemmas.Result.{err_from_is_err_and}
use Rattle.definition.specs.Refusals.{◌when◌else◌}
use Rattle.accepted.specs.Checks.{vectors_good, degree_good}
use Rattle.checks_number.specs.Tests.{number_of, holds_at, refused_early}
use Rattle.checks_number.specs.SearchNumber.{limits_clear, limits_past, search_numbered}
use Rattle.checks_number.proofs.check_search.Goals as goal

pub returns-in_err-check_limits : goal.returns-in_err-check_limits
returns-in_err-check_limits c = let p = err_from_is_err_and c.from_residual.result c.from_residual.ensures.1 in rw (p.1, p.2) (search_numbered (refused_early _ _ _ c.in_err-check_limits.ensures))

pub bad_searched-requires : goal.bad_searched-requires
unfolding holds_at
bad_searched-requires c =
    let a = c.args.asked in let clear = limits_clear a.n a.dim a.vectors.now a.degree a.beam a.start (sym c.in_ok-check_limits.ensures) in
    ((vectors_good a.n a.dim a.vectors.now (clear 1)).1, (degree_good a.degree (clear 2)).few)

pub check_lengths-requires : goal.check_lengths-requires
unfolding holds_at
check_lengths-requires c =
    let a = c.args.asked in let clear = limits_clear a.n a.dim a.vectors.now a.degree a.beam a.start (sym c.in_ok-check_limits.ensures) in
    (vectors_good a.n a.dim a.vectors.now (clear 1)).1

pub returns-then-bad_searched : goal.returns-then-bad_searched
returns-then-bad_searched c = let a = c.args.asked in
    search_numbered (limits_past a.n a.dim a.vectors.now a.degree a.beam a.start _ (sym c.in_ok-check_limits.ensures)
    (unfold number_of in unfold ◌when◌else◌ in grind (arith, common_steps)))

pub returns : goal.returns
returns c = let a = c.args.asked in
    search_numbered (limits_past a.n a.dim a.vectors.now a.degree a.beam a.start _ (sym c.in_ok-check_limits.ensures)
    (unfold number_of in unfold ◌when◌else◌ in grind (arith, common_steps)))
