-- `greedy`. At the next epoch no mark is the epoch, so the walk begins with nothing visited.
use native.Mathlib.Omega.{arith}
use Rattle.greedy.proofs.Starting.{stray_fits, started, start_ready, start_live, met_live, walked}
use Rattle.greedy.proofs.greedy.Goals as goal

pub next_epoch-e-requires : goal.next_epoch-e-requires
next_epoch-e-requires c = c.requires.epoch_bound.0

pub bounds-words-n : goal.bounds-words-n
bounds-words-n c = stray_fits c.requires.epoch_bound.1

pub expand-c-requires : goal.expand-c-requires
expand-c-requires c =
    let g = c.requires.ground in
    let b = started c.requires.epoch_bound.1 c.next_epoch-e.ensures c.requires.keys_value c.empty-work.ensures in
    record {
      ready = start_ready b;
      live = start_live b;
      measures = g.measures;
      rooms = record { ids_fit = omega arith; dists_fit = omega arith; few = omega arith };
    }

pub from_start-requires : goal.from_start-requires
from_start-requires c =
    let b = started c.requires.epoch_bound.1 c.next_epoch-e.ensures c.requires.keys_value c.empty-work.ensures in
    let m = c.expand-c.ensures in
    let inside = c.requires.start_lt_n in
    record { ready = m.ready; live = met_live b _ inside m; ground = c.requires.ground; start_lt_n = (inside, omega arith, omega arith) }

pub returns : goal.returns
returns c =
    let b = started c.requires.epoch_bound.1 c.next_epoch-e.ensures c.requires.keys_value c.empty-work.ensures in
    walked b _ c.requires.start_lt_n c.expand-c.ensures _ c.from_start.ensures

pub shape_of-words : goal.shape_of-words
shape_of-words c = (returns c).words_kept.size
