-- `bad_count` meets its contract.
use Rattle.std.proofs.Common.{refl, eq-eqb, ne_eqb}
use Rattle.definition.specs.Refusals.{bad_count}
use Rattle.checks.proofs.limits.bad_count.Goals as goal

pub returns-then-n-eq0 : goal.returns-then-n-eq0
unfolding bad_count
returns-then-n-eq0 c = rw (eq-eqb _ _ c.if-n-eq0.true) refl

pub returns-else-n-eq0 : goal.returns-else-n-eq0
unfolding bad_count
returns-else-n-eq0 c = rw (ne_eqb _ _ c.if-n-eq0.false) refl
