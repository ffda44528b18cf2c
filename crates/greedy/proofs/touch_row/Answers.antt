-- `touch_row`. The loop's invariant: there are as many places as there were, at least one for each word of the row.
use native.Mathlib.Omega.{arith}
use lib.ListN.{length-set}
use Rattle.greedy.proofs.touch_row.Goals as goal

pub loop-k-smaller : goal.loop-k-smaller
loop-k-smaller c = omega arith

pub loop-k-preserved : goal.loop-k-preserved
loop-k-preserved c = simp length-set c.loop-k.invariant

pub returns : goal.returns
returns c = tt
