-- `run_end`. The loop's invariant: each key from `first` on up to `end` holds the distance of the first.
use Rattle.std.proofs.Common.{◌≡◌, ℕ, ◌<◌, ◌≤◌, get_or}
use Rattle.beam.specs.Keys.{dist_of}
use Rattle.listing.proofs.run_end.Given as goal

abbrev pub invariant-loop-end : goal.invariant-loop-end
invariant-loop-end l = (j : ℕ) → l.first ≤ j → j < l.end → dist_of (get_or l.keys j 0) ≡ l.dist
