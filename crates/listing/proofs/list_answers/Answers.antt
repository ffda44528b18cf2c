-- `list_answers`. The loop's invariant: all before `first` are nearer than all from there on, and so many of the answers are listed.
use Rattle.std.proofs.Common.{arith}
use Rattle.definition.specs.Search.{ranked}
use Rattle.listing.specs.Listed.{pairs, items_in}
use Rattle.listing.proofs.Copying.{listed-none, listed_at, listed_all}
use Rattle.listing.proofs.Turning.{parts_end, ranked_length, ranked_at}
use Rattle.listing.proofs.list_answers.Goals as goal

pub loop-first-init : goal.loop-first-init
loop-first-init c = (λ i j h. absurd (omega arith), listed_at (omega arith) (listed-none _ _))

pub loop-first-smaller : goal.loop-first-smaller
loop-first-smaller c = omega arith

pub loop-first-preserved : goal.loop-first-preserved
loop-first-preserved c =
    let run = c.run_end-end.ensures in
    let a = c.args in
    let up = c.requires.rising in
    let size = ranked_length a.keys.now a.len up (omega arith) a.count (omega arith) in (
      parts_end a.keys.now a.len up (omega arith) run,
      listed_at c.min.ensures
          (c.list_run.ensures.goes_on (ranked a.count (items_in a.keys.now a.len)) (pairs a.ids.now a.dists.now)
          (λ i h k. ranked_at a.keys.now a.len up (omega arith) a.count (omega arith) c.loop-first.invariant.0 run i h (omega arith) (omega arith))
          (omega arith) (omega arith) (omega arith) (listed_at (omega arith) c.loop-first.invariant.1)),
    )

pub shape_of-ids : goal.shape_of-ids
shape_of-ids c = c.loop-first.invariant.1.ids_size

pub shape_of-dists : goal.shape_of-dists
shape_of-dists c = c.loop-first.invariant.1.dists_size

pub returns : goal.returns
returns c =
    let a = c.args in
    listed_all _ _ _ a.count (listed_at (omega arith) c.loop-first.invariant.1)
    (ranked_length a.keys.now a.len c.requires.rising (omega arith) a.count (omega arith))
