-- `is_among` meets its contract.
use Rattle.std.proofs.Common.{arith}
use Rattle.checks_repeats.specs.Among.{among_more, among_end}
use Rattle.checks_repeats.proofs.is_among.Goals as goal

pub loop-id-preserved : goal.loop-id-preserved
loop-id-preserved c = among_more _ _ _ _ c.loop-id.invariant c.loop-id-test.true

pub returns : goal.returns
returns c = among_end _ _ _ _ c.loop-id.invariant (omega arith)
