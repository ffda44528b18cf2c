-- `take_samples`: the first i values are samples, and stand at the start of `out`.
use Rattle.std.proofs.Common.{rules}
use Rattle.seek_text.proofs.Forms.{taking_start, taking_fail, taking_on, taking_end}
use Rattle.seek_text.proofs.take_samples.Goals as goal

pub loop-i-init : goal.loop-i-init
loop-i-init c = taking_start

pub returns-in-Err : goal.returns-in-Err
returns-in-Err c = taking_fail c.loop-i-test.true (search rules)

pub loop-i-preserved : goal.loop-i-preserved
loop-i-preserved c = taking_on c.loop-i.invariant c.requires c.loop-i-test.true (search rules) (search rules)

pub returns : goal.returns
returns c = taking_end c.loop-i.invariant c.loop-i-test.false
