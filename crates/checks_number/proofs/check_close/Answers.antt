-- `check_close` meets its contract.
use Rattle.std.proofs.Common.{sym, ◌∙◌, arith}
use Rattle.std.proofs.lemmas.Grind.{common_steps}
use Rattle.std.proofs.lemmas.Result.{err_from_is_err_and}
use Rattle.definition.specs.Refusals.{◌when◌else◌}
use Rattle.accepted.specs.Checks.{vectors_good, degree_good}
use Rattle.checks_number.specs.Tests.{number_of, holds_at, refused_early}
use Rattle.checks_number.specs.Shared.{entries-clear, entries_past}
use Rattle.checks_number.specs.BuildNumbers.{close_numbered}
use Rattle.checks_number.proofs.check_close.Goals as goal

pub returns-in_err-check_entries : goal.returns-in_err-check_entries
returns-in_err-check_entries c = let p = err_from_is_err_and c.from_residual.result c.from_residual.ensures.1 in rw (p.1, p.2) (close_numbered (refused_early _ _ _ c.in_err-check_entries.ensures))

pub bad_wide-requires : goal.bad_wide-requires
unfolding holds_at
bad_wide-requires c =
    let a = c.args in let clear = entries-clear a.n a.dim a.vectors.now (sym c.in_ok-check_entries.ensures) in
    ((vectors_good a.n a.dim a.vectors.now (clear 1)).1, (degree_good a.params.degree (sym c.bad_degree.ensures ∙ c.if-bad_degree.false)).few)

pub bad_length-requires : goal.bad_length-requires
unfolding holds_at
bad_length-requires c =
    let a = c.args in let clear = entries-clear a.n a.dim a.vectors.now (sym c.in_ok-check_entries.ensures) in (
      (vectors_good a.n a.dim a.vectors.now (clear 1)).1,
      (let d = degree_good a.params.degree (sym c.bad_degree.ensures ∙ c.if-bad_degree.false) in omega arith),
    )

pub build_short-requires : goal.build_short-requires
unfolding holds_at
build_short-requires c =
    let a = c.args in let clear = entries-clear a.n a.dim a.vectors.now (sym c.in_ok-check_entries.ensures) in
    (vectors_good a.n a.dim a.vectors.now (clear 1)).1

pub returns-then-bad_degree : goal.returns-then-bad_degree
returns-then-bad_degree c = let a = c.args in
    close_numbered (entries_past a.n a.dim a.vectors.now _ (sym c.in_ok-check_entries.ensures)
    (unfold number_of in unfold ◌when◌else◌ in grind (arith, common_steps)))

pub returns-then-bad_alpha : goal.returns-then-bad_alpha
returns-then-bad_alpha c = let a = c.args in
    close_numbered (entries_past a.n a.dim a.vectors.now _ (sym c.in_ok-check_entries.ensures)
    (unfold number_of in unfold ◌when◌else◌ in grind (arith, common_steps)))

pub returns-then-bad_wide : goal.returns-then-bad_wide
returns-then-bad_wide c = let a = c.args in
    close_numbered (entries_past a.n a.dim a.vectors.now _ (sym c.in_ok-check_entries.ensures)
    (unfold number_of in unfold ◌when◌else◌ in grind (arith, common_steps)))

pub returns-then-bad_length : goal.returns-then-bad_length
returns-then-bad_length c = let a = c.args in
    close_numbered (entries_past a.n a.dim a.vectors.now _ (sym c.in_ok-check_entries.ensures)
    (unfold number_of in unfold ◌when◌else◌ in grind (arith, common_steps)))

pub returns-then-build_short : goal.returns-then-build_short
returns-then-build_short c = let a = c.args in
    close_numbered (entries_past a.n a.dim a.vectors.now _ (sym c.in_ok-check_entries.ensures)
    (unfold number_of in unfold ◌when◌else◌ in grind (arith, common_steps)))

pub returns : goal.returns
returns c = let a = c.args in
    close_numbered (entries_past a.n a.dim a.vectors.now _ (sym c.in_ok-check_entries.ensures)
    (unfold number_of in unfold ◌when◌else◌ in grind (arith, common_steps)))
