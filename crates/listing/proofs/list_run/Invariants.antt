-- `list_run`. The loop's invariant: the run is listed as far as place i.
use Rattle.std.proofs.Common.{◌≡◌, length}
use Rattle.listing.specs.Listed.{pairs}
use Rattle.listing.specs.Runs.{RunListed}
use Rattle.listing.proofs.list_run.Given as goal

abbrev pub invariant-loop-i : goal.invariant-loop-i
invariant-loop-i l =
    (length l.ids ≡ length l.initial.ids) × (length l.dists ≡ length l.initial.dists)
    × RunListed l.keys l.first l.end l.i (pairs l.initial.ids l.initial.dists) (pairs l.ids l.dists)
