-- `check_batch` meets its contract.
use Rattle.std.proofs.Common.{sym, arith}
use Rattle.std.proofs.lemmas.Grind.{common_steps}
use Rattle.std.proofs.lemmas.Result.{err_from_is_err_and}
use Rattle.definition.specs.Refusals.{◌when◌else◌}
use Rattle.accepted.specs.Checks.{vectors_good, degree_good}
use Rattle.checks_number.specs.Tests.{number_of, holds_at, refused_early}
use Rattle.checks_number.specs.Shared.{params-clear, params_past}
use Rattle.checks_number.specs.BuildNumbers.{batch_numbered}
use Rattle.checks_number.proofs.check_batch.Goals as goal

pub returns-in_err-check_params : goal.returns-in_err-check_params
returns-in_err-check_params c = let p = err_from_is_err_and c.from_residual.result c.from_residual.ensures.1 in rw (p.1, p.2) (batch_numbered (refused_early _ _ _ c.in_err-check_params.ensures))

pub bad_wide-requires : goal.bad_wide-requires
unfolding holds_at
bad_wide-requires c =
    let a = c.args in let clear = params-clear a.n a.dim a.vectors.now a.params a.start (sym c.in_ok-check_params.ensures) in
    ((vectors_good a.n a.dim a.vectors.now (clear 1)).1, (degree_good a.params.degree (clear 2)).few)

pub bad_nodes-requires : goal.bad_nodes-requires
unfolding holds_at
bad_nodes-requires c =
    let a = c.args in let clear = params-clear a.n a.dim a.vectors.now a.params a.start (sym c.in_ok-check_params.ensures) in
    (vectors_good a.n a.dim a.vectors.now (clear 1)).1

pub build_short-requires : goal.build_short-requires
unfolding holds_at
build_short-requires c =
    let a = c.args in let clear = params-clear a.n a.dim a.vectors.now a.params a.start (sym c.in_ok-check_params.ensures) in
    (vectors_good a.n a.dim a.vectors.now (clear 1)).1

pub returns-then-bad_seeds : goal.returns-then-bad_seeds
returns-then-bad_seeds c = let a = c.args in
    batch_numbered (params_past a.n a.dim a.vectors.now a.params a.start _ (sym c.in_ok-check_params.ensures)
    (unfold number_of in unfold ◌when◌else◌ in grind (arith, common_steps)))

pub returns-then-bad_wide : goal.returns-then-bad_wide
returns-then-bad_wide c = let a = c.args in
    batch_numbered (params_past a.n a.dim a.vectors.now a.params a.start _ (sym c.in_ok-check_params.ensures)
    (unfold number_of in unfold ◌when◌else◌ in grind (arith, common_steps)))

pub returns-then-bad_nodes : goal.returns-then-bad_nodes
returns-then-bad_nodes c = let a = c.args in
    batch_numbered (params_past a.n a.dim a.vectors.now a.params a.start _ (sym c.in_ok-check_params.ensures)
    (unfold number_of in unfold ◌when◌else◌ in grind (arith, common_steps)))

pub returns-then-build_short : goal.returns-then-build_short
returns-then-build_short c = let a = c.args in
    batch_numbered (params_past a.n a.dim a.vectors.now a.params a.start _ (sym c.in_ok-check_params.ensures)
    (unfold number_of in unfold ◌when◌else◌ in grind (arith, common_steps)))

pub returns : goal.returns
returns c = let a = c.args in
    batch_numbered (params_past a.n a.dim a.vectors.now a.params a.start _ (sym c.in_ok-check_params.ensures)
    (unfold number_of in unfold ◌when◌else◌ in grind (arith, common_steps)))
