-- `add_walk`. The walk leaves the pool alone, and the words hold what it visited.
use mathlib.Core.Path.{refl}
use Rattle.batch_pool.proofs.Growing.{walked, grown_walk}
use Rattle.batch_pool.proofs.add_walk.Goals as goal

pub greedy-s-requires : goal.greedy-s-requires
greedy-s-requires c =
    let held = c.requires.epoch_bound in
    record {
      epoch_bound = (held.0, held.1.room);
      keys_value = refl;
      ground = c.requires.walkable.ground;
      start_lt_n = c.requires.start_lt_n;
    }

pub add_visited-more-requires : goal.add_visited-more-requires
add_visited-more-requires c =
    let w = walked c.requires.walkable _ _ c.requires.start_lt_n c.requires.epoch_bound.1 c.greedy-s.ensures in
    record { pooled = w.0; n_bound = w.1.0; seen_below = w.1.1 }

pub returns : goal.returns
returns c =
    let r = c.requires in
    record {
      grown = grown_walk r.walkable _ _ r.start_lt_n r.epoch_bound.1 c.greedy-s.ensures c.add_visited-more.ensures;
      epoch_value = c.greedy-s.ensures.epoch_is;
    }
