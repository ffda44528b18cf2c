-- `check_medoid` meets its contract.
use Rattle.std.proofs.Common.{sym, arith}
use Rattle.std.proofs.lemmas.Grind.{common_steps}
use Rattle.std.proofs.lemmas.Result.{err_from_is_err_and}
use Rattle.definition.specs.Refusals.{◌when◌else◌}
use Rattle.accepted.specs.Checks.{vectors_good}
use Rattle.checks_number.specs.Tests.{number_of, holds_at, refused_early}
use Rattle.checks_number.specs.Shared.{entries-clear, entries_past}
use Rattle.checks_number.specs.MedoidNumber.{medoid-numbered}
use Rattle.checks_number.proofs.check_medoid.Goals as goal

pub returns-in_err-check_entries : goal.returns-in_err-check_entries
returns-in_err-check_entries c = let p = err_from_is_err_and c.from_residual.result c.from_residual.ensures.1 in rw (p.1, p.2) (medoid-numbered (refused_early _ _ _ c.in_err-check_entries.ensures))

pub bad_pivots-requires : goal.bad_pivots-requires
unfolding holds_at
bad_pivots-requires c =
    let a = c.args in let clear = entries-clear a.n a.dim a.vectors.now (sym c.in_ok-check_entries.ensures) in
    (vectors_good a.n a.dim a.vectors.now (clear 1)).1

pub returns-then-bad_pivots : goal.returns-then-bad_pivots
returns-then-bad_pivots c = let a = c.args in
    medoid-numbered (entries_past a.n a.dim a.vectors.now _ (sym c.in_ok-check_entries.ensures)
    (unfold number_of in unfold ◌when◌else◌ in grind (arith, common_steps)))

pub returns : goal.returns
returns c = let a = c.args in
    medoid-numbered (entries_past a.n a.dim a.vectors.now _ (sym c.in_ok-check_entries.ensures)
    (unfold number_of in unfold ◌when◌else◌ in grind (arith, common_steps)))
