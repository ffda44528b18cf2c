-- `all_below` meets its contract.
use Rattle.std.proofs.Common.{arith}
use Rattle.std.proofs.lemmas.Bool.Decides.{nat_tests}
use Rattle.laws.specs.Looked.{look_more, look_none}
use Rattle.checks.specs.Below.{all_below}
use Rattle.checks.proofs.sets.all_below.Goals as goal

pub loop-id-preserved : goal.loop-id-preserved
loop-id-preserved c = look_more _ _ _ _ _ c.loop-id.invariant c.loop-id-test.true (grind (arith, nat_tests))

pub returns : goal.returns
unfolding all_below
returns c = look_none _ _ _ _ c.loop-id.invariant (omega arith)
