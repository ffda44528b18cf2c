-- `check_report` meets its contract.
use Rattle.std.proofs.Common.{sym, arith}
use Rattle.std.proofs.lemmas.Grind.{common_steps}
use Rattle.std.proofs.lemmas.Result.{err_from_is_err_and}
use Rattle.definition.specs.Refusals.{◌when◌else◌}
use Rattle.accepted.specs.Checks.{dim_good, vectors_good, degree_good}
use Rattle.checks_number.specs.Tests.{number_of, holds_at, refused_early}
use Rattle.checks_number.specs.SearchNumber.{limits_clear, limits_past}
use Rattle.checks_recall.specs.ReportNumber.{report_numbered}
use Rattle.checks_recall.proofs.check_report.Goals as goal

pub returns-in_err-check_limits : goal.returns-in_err-check_limits
returns-in_err-check_limits c = let p = err_from_is_err_and c.from_residual.result c.from_residual.ensures.1 in rw (p.1, p.2) (report_numbered (refused_early _ _ _ c.in_err-check_limits.ensures))

pub bad_searched-requires : goal.bad_searched-requires
unfolding holds_at
bad_searched-requires c =
    let a = c.args in
    let clear = limits_clear a.n a.dim a.vectors.now a.degree a.beam a.start (sym c.in_ok-check_limits.ensures) in
    ((vectors_good a.n a.dim a.vectors.now (clear 1)).1, (degree_good a.degree (clear 2)).few)

pub report_short-requires : goal.report_short-requires
unfolding holds_at
report_short-requires c =
    let a = c.args in
    let clear = limits_clear a.n a.dim a.vectors.now a.degree a.beam a.start (sym c.in_ok-check_limits.ensures) in
    (vectors_good a.n a.dim a.vectors.now (clear 1)).1

pub bad_queries-requires : goal.bad_queries-requires
unfolding holds_at
bad_queries-requires c =
    let a = c.args in
    let clear = limits_clear a.n a.dim a.vectors.now a.degree a.beam a.start (sym c.in_ok-check_limits.ensures) in
    (dim_good a.dim (clear 0)).0

pub returns-then-bad_searched : goal.returns-then-bad_searched
returns-then-bad_searched c =
    let a = c.args in
    report_numbered
    (limits_past a.n a.dim a.vectors.now a.degree a.beam a.start _ (sym c.in_ok-check_limits.ensures)
    (unfold number_of in unfold ◌when◌else◌ in grind (arith, common_steps)))

pub returns-then-report_short : goal.returns-then-report_short
returns-then-report_short c =
    let a = c.args in
    report_numbered
    (limits_past a.n a.dim a.vectors.now a.degree a.beam a.start _ (sym c.in_ok-check_limits.ensures)
    (unfold number_of in unfold ◌when◌else◌ in grind (arith, common_steps)))

pub returns-then-bad_queries : goal.returns-then-bad_queries
returns-then-bad_queries c =
    let a = c.args in
    report_numbered
    (limits_past a.n a.dim a.vectors.now a.degree a.beam a.start _ (sym c.in_ok-check_limits.ensures)
    (unfold number_of in unfold ◌when◌else◌ in grind (arith, common_steps)))

pub returns-then-bad_k : goal.returns-then-bad_k
returns-then-bad_k c =
    let a = c.args in
    report_numbered
    (limits_past a.n a.dim a.vectors.now a.degree a.beam a.start _ (sym c.in_ok-check_limits.ensures)
    (unfold number_of in unfold ◌when◌else◌ in grind (arith, common_steps)))

pub returns : goal.returns
returns c =
    let a = c.args in
    report_numbered
    (limits_past a.n a.dim a.vectors.now a.degree a.beam a.start _ (sym c.in_ok-check_limits.ensures)
    (unfold number_of in unfold ◌when◌else◌ in grind (arith, common_steps)))
