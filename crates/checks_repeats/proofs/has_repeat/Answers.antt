-- `has_repeat` meets its contract.
use Rattle.std.proofs.Common.{refl, arith}
use Rattle.checks_repeats.specs.Bits.{pass-start, pass_again, pass_on, pass_end}
use Rattle.checks_repeats.proofs.has_repeat.Goals as goal

pub loop-id-init : goal.loop-id-init
loop-id-init c = pass-start _

pub returns-then-word-place-eq1 : goal.returns-then-word-place-eq1
returns-then-word-place-eq1 c = pass_again _ _ _ c.loop-id.invariant c.loop-id-test.true _ refl c.if-word-place-eq1.true

pub loop-id-preserved : goal.loop-id-preserved
loop-id-preserved c = let o = c.loop-id in pass_on _ _ _ o.invariant c.loop-id-test.true _ refl (c.requires.at o.id-index) c.if-word-place-eq1.false

pub returns : goal.returns
returns c = pass_end _ _ _ c.loop-id.invariant (omega arith)
