-- `add_walks`. The loop's invariant: the walks from the first k seeds have been made.
use mathlib.Core.List.{map}
use mathlib.Core.Path.{◌≡◌}
use Prim.Native.Nat.{◌+◌}
use lib.ListN.{take}
use Rattle.definition.specs.Lists.{joined}
use Rattle.definition.specs.Metric.{from_query}
use Rattle.batch_pool.specs.Regions.{stage, Grown, visits}
use Rattle.batch_pool.proofs.add_walks.Given as goal

abbrev pub invariant-loop-seed : goal.invariant-loop-seed
invariant-loop-seed l =
    (l.s.epoch ≡ l.initial.s.epoch + l.seed-index)
    × Grown l.p l.s.epoch (stage l.initial.words l.stamp l.initial.s.len) (stage l.words l.stamp l.s.len)
    (joined (map (visits l.p (from_query l.p.dim l.vectors l.query) l.wide) (take l.seed-index l.seeds))) (from_query l.p.dim l.vectors l.query)
