-- `metric::add_sixteen` meets its contract. The loop's invariant: the sixteen sums with what is still to come stay the same. Assumes nothing.
use Rattle.std.proofs.Common.{List, ℕ, ◌+◌, drop}
use Rattle.definition.specs.Lists.{total}
use Rattle.definition.specs.Metric.{metric}
use Rattle.metric.specs.Stretches.{Sixteen}
use Rattle.metric.proofs.add_sixteen.Given as goal

-- the sums with what is still to come
abbrev pub all : List ℕ → List ℕ → ℕ → List ℕ → ℕ
all a b at sums = total sums + metric (drop at a) (drop at b)

abbrev pub invariant-loop-j : goal.invariant-loop-j
invariant-loop-j l = Sixteen l.a l.b (l.at + l.j) (all l.a l.b l.at l.initial.sums) l.sums
