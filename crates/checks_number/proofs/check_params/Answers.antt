-- `check_params` meets its contract.
use Rattle.std.proofs.Common.{sym, arith}
use Rattle.std.proofs.lemmas.Grind.{common_steps}
use Rattle.std.proofs.lemmas.Result.{err_from_is_err_and}
use Rattle.definition.specs.Refusals.{◌when◌else◌}
use Rattle.checks_number.specs.Tests.{number_of, refused_early}
use Rattle.checks_number.specs.Shared.{entries_past}
use Rattle.checks_number.proofs.check_params.Goals as goal

pub returns-in_err-check_entries : goal.returns-in_err-check_entries
returns-in_err-check_entries c = let p = err_from_is_err_and c.from_residual.result c.from_residual.ensures.1 in rw (p.1, p.2) (refused_early _ _ _ c.in_err-check_entries.ensures)

pub returns-then-bad_degree : goal.returns-then-bad_degree
returns-then-bad_degree c = let a = c.args in
    entries_past a.n a.dim a.vectors.now _ (sym c.in_ok-check_entries.ensures)
    (unfold number_of in unfold ◌when◌else◌ in grind (arith, common_steps))

pub returns-then-bad_beam : goal.returns-then-bad_beam
returns-then-bad_beam c = let a = c.args in
    entries_past a.n a.dim a.vectors.now _ (sym c.in_ok-check_entries.ensures)
    (unfold number_of in unfold ◌when◌else◌ in grind (arith, common_steps))

pub returns-then-bad_alpha : goal.returns-then-bad_alpha
returns-then-bad_alpha c = let a = c.args in
    entries_past a.n a.dim a.vectors.now _ (sym c.in_ok-check_entries.ensures)
    (unfold number_of in unfold ◌when◌else◌ in grind (arith, common_steps))

pub returns-then-bad_start : goal.returns-then-bad_start
returns-then-bad_start c = let a = c.args in
    entries_past a.n a.dim a.vectors.now _ (sym c.in_ok-check_entries.ensures)
    (unfold number_of in unfold ◌when◌else◌ in grind (arith, common_steps))

pub returns : goal.returns
returns c = let a = c.args in
    entries_past a.n a.dim a.vectors.now _ (sym c.in_ok-check_entries.ensures)
    (unfold number_of in unfold ◌when◌else◌ in grind (arith, common_steps))
