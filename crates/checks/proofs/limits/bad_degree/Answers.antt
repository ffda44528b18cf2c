-- `bad_degree` meets its contract.
use Rattle.std.proofs.Common.{refl, eq-eqb, ne_eqb}
use Rattle.definition.specs.Refusals.{bad_degree}
use Rattle.checks.proofs.limits.bad_degree.Goals as goal

pub returns-then-degree-eq0 : goal.returns-then-degree-eq0
unfolding bad_degree
returns-then-degree-eq0 c = rw (eq-eqb _ _ c.if-degree-eq0.true) refl

pub returns-else-degree-eq0 : goal.returns-else-degree-eq0
unfolding bad_degree
returns-else-degree-eq0 c = rw (ne_eqb _ _ c.if-degree-eq0.false) refl
