-- `list_mirrored`. The loop's invariant: i answers are listed.
use Rattle.std.proofs.Common.{map, take}
use Rattle.listing.specs.Listed.{pairs, mirrored_item, ListedTo}
use Rattle.listing.proofs.list_mirrored.Given as goal

abbrev pub invariant-loop-i : goal.invariant-loop-i
invariant-loop-i l =
    ListedTo l.i (map (mirrored_item l.n) (take l.count l.keys)) (pairs l.initial.ids l.initial.dists) (pairs l.ids l.dists)
