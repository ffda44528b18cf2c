-- `check_lookup` meets its contract: a table as cleaned fails check 8 by its length alone.
use Rattle.std.proofs.Common.{◌≡◌, ℕ, Bool, List, length, sym, ◌∙◌, refl, arith}
use Rattle.std.proofs.lemmas.Grind.{common_steps}
use Rattle.std.proofs.lemmas.Result.{err_from_is_err_and}
use Rattle.definition.specs.Tables.{cleaned}
use Rattle.definition.specs.Refusals.{◌when◌else◌, bad_searched}
use Rattle.accepted.specs.Checks.{vectors_good, degree_good, cleaned-searched}
use Rattle.checks.specs.Lengths.{wrong_length, length_is}
use Rattle.checks_number.specs.Tests.{number_of, holds_at, refused_early}
use Rattle.checks_number.specs.SearchNumber.{limits_clear, limits_past, lookup_numbered}
use Rattle.checks_number.proofs.check_lookup.Goals as goal

-- the test of the length is the test of the table as cleaned
searched_by_length : (n degree : ℕ) (table : List ℕ) {r : Bool} → r ≡ wrong_length n degree (length table) → r ≡ bad_searched n degree (cleaned n table)
searched_by_length n degree table e = e ∙ length_is n degree table (length table) refl ∙ sym (cleaned-searched n degree table)

pub returns-in_err-check_limits : goal.returns-in_err-check_limits
returns-in_err-check_limits c = let p = err_from_is_err_and c.from_residual.result c.from_residual.ensures.1 in rw (p.1, p.2) (lookup_numbered (refused_early _ _ _ c.in_err-check_limits.ensures))

pub bad_length-requires : goal.bad_length-requires
unfolding holds_at
bad_length-requires c =
    let a = c.args.asked in let clear = limits_clear a.n a.dim a.vectors.now a.degree a.beam a.start (sym c.in_ok-check_limits.ensures) in
    ((vectors_good a.n a.dim a.vectors.now (clear 1)).1, (let d = degree_good a.degree (clear 2) in omega arith))

pub check_lengths-requires : goal.check_lengths-requires
unfolding holds_at
check_lengths-requires c =
    let a = c.args.asked in let clear = limits_clear a.n a.dim a.vectors.now a.degree a.beam a.start (sym c.in_ok-check_limits.ensures) in
    (vectors_good a.n a.dim a.vectors.now (clear 1)).1

pub returns-then-bad_length : goal.returns-then-bad_length
returns-then-bad_length c = let a = c.args.asked in
    let by_length = searched_by_length a.n a.degree a.table.now c.bad_length.ensures in
    lookup_numbered (limits_past a.n a.dim a.vectors.now a.degree a.beam a.start _ (sym c.in_ok-check_limits.ensures)
    (unfold number_of in unfold ◌when◌else◌ in grind (arith, common_steps)))

pub returns : goal.returns
returns c = let a = c.args.asked in
    let by_length = searched_by_length a.n a.degree a.table.now c.bad_length.ensures in
    lookup_numbered (limits_past a.n a.dim a.vectors.now a.degree a.beam a.start _ (sym c.in_ok-check_limits.ensures)
    (unfold number_of in unfold ◌when◌else◌ in grind (arith, common_steps)))
