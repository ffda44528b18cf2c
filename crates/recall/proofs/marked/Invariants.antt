-- `marked`. The loop's invariant: the sum is how many of the ids so far have the epoch as their mark: at most so many, so that it fits.
use Rattle.std.proofs.Common.{◌≤◌, take}
use Rattle.recall.specs.Marks.{Counted}
use Rattle.recall.proofs.marked.Given as goal

abbrev pub invariant-loop-id : goal.invariant-loop-id
invariant-loop-id l = (l.sum ≤ l.id-index) × Counted l.epoch l.words (take l.id-index l.ids) l.sum
