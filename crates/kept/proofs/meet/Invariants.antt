-- `meet`. The loop's invariant: those that the iterator gave were met, and it has the others left.
use mathlib.Core.Path.{◌≡◌}
use lib.ListN.{length, drop}
use Rattle.std.specs.Iterator.Adapters.{zip_first, zip_second}
use Rattle.std.specs.Slice.Iter.{iter_rest}
use Rattle.kept.specs.Says.{standing}
use Rattle.kept.proofs.Meeting.{MetTo}
use Rattle.kept.proofs.meet.Given as goal

abbrev pub invariant-loop-id : goal.invariant-loop-id
invariant-loop-id l =
    let j = length l.yielded in
    MetTo l.beam (standing l.initial.keys l.initial.s) l.ids l.dists (standing l.keys l.s) j
    × (iter_rest (zip_first l.id-iterator) ≡ drop j l.ids) × (iter_rest (zip_second l.id-iterator) ≡ drop j l.dists)
