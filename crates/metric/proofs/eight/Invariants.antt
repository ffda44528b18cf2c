-- `metric::eight` meets its contract. The loop's invariant: what is summed is what the samples passed so far add. Assumes nothing.
use Rattle.std.proofs.Common.{◌+◌}
use Rattle.metric.specs.Stretches.{Adds}
use Rattle.metric.proofs.eight.Given as goal

abbrev pub invariant-loop-j : goal.invariant-loop-j
invariant-loop-j l = Adds l.a l.b l.at (l.at + l.j) l.sum
