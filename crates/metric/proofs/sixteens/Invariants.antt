-- `metric::sixteens` meets its contract. The loop's invariant: the sixteen sums with what is still to come are what the samples from `from` on add.
-- Assumes nothing.
use Rattle.std.proofs.Common.{◌≡◌, ◌-◌, ◌%◌, ◌≤◌, drop}
use Rattle.definition.specs.Metric.{metric}
use Rattle.metric.specs.Stretches.{Sixteen}
use Rattle.metric.proofs.sixteens.Given as goal

abbrev pub invariant-loop-i : goal.invariant-loop-i
invariant-loop-i l = (l.i ≤ l.to) × ((l.to - l.i) % 16 ≡ 0) × Sixteen l.a l.b l.i (metric (drop l.from l.a) (drop l.from l.b)) l.sums

abbrev pub decreases-loop-i : goal.decreases-loop-i
decreases-loop-i l = l.to - l.i
