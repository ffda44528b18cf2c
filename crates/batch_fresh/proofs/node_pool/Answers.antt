-- `node_pool` meets its contract. No stamp is the node's yet, so the pool begins empty; the query is the node's vector.
use mathlib.Core.Path.{refl, subst}
use Prim.Native.Nat.{ℕ, ◌+◌}
use native.Mathlib.Omega.{arith}
use mathlib.Core.List.{List}
use Rattle.definition.specs.Metric.{from_query}
use Rattle.given.specs.Given.{given, degree-slack}
use Rattle.batch_pool.specs.Regions.{stage, Grown, pooled_ids}
use Rattle.batch_fresh.specs.Made.{plan_of}
use Rattle.batch_fresh.proofs.Making.{holding_blank}
use Rattle.batch_fresh.proofs.node_pool.Goals as goal

pub collect_pool-requires-clause-walkable : goal.collect_pool-requires-clause-walkable
collect_pool-requires-clause-walkable c =
    let a = c.args in
    let limits = c.requires.walk_limits.limits in
    record {
      ground =
          record {
            measures = record { vectors_are = limits.vectors_are; query_is = c.vector.ensures.size; few = limits.dim_few };
            size = c.requires.wide.size;
            narrow = omega (arith, (degree-slack a.g.params.degree a.g.slack limits.width_is limits.degree_few).1);
          };
      keeps = refl;
      rows = c.requires.wide.words;
    }

pub collect_pool-requires-clause-seeds_bound : goal.collect_pool-requires-clause-seeds_bound
collect_pool-requires-clause-seeds_bound c = (c.requires.seeds_bound, holding_blank c.requires.between)

pub returns-clause-node_pool : goal.returns-clause-node_pool
returns-clause-node_pool c =
    let k = c.collect_pool in
    let a = c.args in
    let plan = plan_of (given a.g) in
    let from : List ℕ → ℕ → ℕ = from_query a.g.dim a.g.vectors.now in
    record {
      grown =
          subst
          (λ (v : List ℕ). Grown plan k.result.epoch (stage a.words.now (a.p + 1) 0) (stage k.new.words (a.p + 1) k.result.len)
          (pooled_ids plan (from v) a.wide.now a.node a.start a.seeds.now) (from v))
          c.vector.ensures.is k.ensures.grown;
    }
