-- `bad_vectors` meets its contract.
use Rattle.std.proofs.Common.{sym, refl, ◌∙◌, mul-le-mul, arith}
use Rattle.definition.specs.Refusals.{bad_vectors}
use Rattle.accepted.specs.Checks.{count_good}
use Rattle.checks.proofs.limits.bad_vectors.Goals as goal

pub overflow_mul-result : goal.overflow_mul-result
overflow_mul-result c =
    omega (arith, mul-le-mul (count_good _ (sym c.bad_count.ensures ∙ c.if-bad_count.false)).1 c.requires)

pub returns-then-bad_count : goal.returns-then-bad_count
unfolding bad_vectors
returns-then-bad_count c = rw (← c.bad_count.ensures, c.if-bad_count.true) refl

pub returns-else-bad_count : goal.returns-else-bad_count
unfolding bad_vectors
returns-else-bad_count c = rw (← c.bad_count.ensures, c.if-bad_count.false) refl
