-- `bad_extra` meets its contract.
use Rattle.std.proofs.Common.{refl, le-ltb, lt-ltb}
use Rattle.definition.specs.Refusals.{bad_extra}
use Rattle.checks.proofs.limits.bad_extra.Goals as goal

pub returns-then-extra-gt16 : goal.returns-then-extra-gt16
unfolding bad_extra
returns-then-extra-gt16 c = rw (lt-ltb _ _ c.if-extra-gt16.true) refl

pub returns-else-extra-gt16 : goal.returns-else-extra-gt16
unfolding bad_extra
returns-else-extra-gt16 c = rw (le-ltb _ _ c.if-extra-gt16.false) refl
