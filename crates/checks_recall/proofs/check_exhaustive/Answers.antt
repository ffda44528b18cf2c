-- `check_exhaustive` meets its contract.
use Rattle.std.proofs.Common.{sym, arith}
use Rattle.std.proofs.lemmas.Grind.{common_steps}
use Rattle.std.proofs.lemmas.Result.{err_from_is_err_and}
use Rattle.definition.specs.Refusals.{◌when◌else◌}
use Rattle.checks_number.specs.Tests.{number_of, refused_early}
use Rattle.checks_number.specs.Shared.{entries_past}
use Rattle.checks_recall.specs.ExhaustiveNumber.{exhaustive_numbered}
use Rattle.checks_recall.proofs.check_exhaustive.Goals as goal

pub returns-in_err-check_entries : goal.returns-in_err-check_entries
returns-in_err-check_entries c = let p = err_from_is_err_and c.from_residual.result c.from_residual.ensures.1 in rw (p.1, p.2) (exhaustive_numbered (refused_early _ _ _ c.in_err-check_entries.ensures))

pub returns-then-nearest_short : goal.returns-then-nearest_short
returns-then-nearest_short c =
    let a = c.args in
    exhaustive_numbered
    (entries_past a.n a.dim a.vectors.now _ (sym c.in_ok-check_entries.ensures)
    (unfold number_of in unfold ◌when◌else◌ in grind (arith, common_steps)))

pub returns-then-query-dim : goal.returns-then-query-dim
returns-then-query-dim c =
    let a = c.args in
    exhaustive_numbered
    (entries_past a.n a.dim a.vectors.now _ (sym c.in_ok-check_entries.ensures)
    (unfold number_of in unfold ◌when◌else◌ in grind (arith, common_steps)))

pub returns-then-bad_k : goal.returns-then-bad_k
returns-then-bad_k c =
    let a = c.args in
    exhaustive_numbered
    (entries_past a.n a.dim a.vectors.now _ (sym c.in_ok-check_entries.ensures)
    (unfold number_of in unfold ◌when◌else◌ in grind (arith, common_steps)))

pub returns : goal.returns
returns c =
    let a = c.args in
    exhaustive_numbered
    (entries_past a.n a.dim a.vectors.now _ (sym c.in_ok-check_entries.ensures)
    (unfold number_of in unfold ◌when◌else◌ in grind (arith, common_steps)))
