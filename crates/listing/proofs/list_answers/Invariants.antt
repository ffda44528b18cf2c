-- `list_answers`. The loop's invariant: all before `first` are nearer than all from there on, and so many of the answers are listed.
use Rattle.std.proofs.Common.{◌-◌, min}
use Rattle.definition.specs.Search.{ranked}
use Rattle.listing.specs.Listed.{pairs, items_in, ListedTo}
use Rattle.listing.proofs.Turning.{Parts}
use Rattle.listing.proofs.list_answers.Given as goal

abbrev pub invariant-loop-first : goal.invariant-loop-first
invariant-loop-first l =
    Parts l.keys l.len l.first
    × ListedTo (min l.first l.count) (ranked l.count (items_in l.keys l.len)) (pairs l.initial.ids l.initial.dists) (pairs l.ids l.dists)

abbrev pub decreases-loop-first : goal.decreases-loop-first
decreases-loop-first l = l.count - l.first
