-- `metric::few` meets its contract. The loop's invariant: what is summed is what the samples passed so far add. Assumes nothing.
use Rattle.metric.specs.Stretches.{Adds}
use Rattle.metric.proofs.few.Given as goal

abbrev pub invariant-loop-i : goal.invariant-loop-i
invariant-loop-i l = Adds l.a l.b l.from l.i l.sum
