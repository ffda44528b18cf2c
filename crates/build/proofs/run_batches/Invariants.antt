-- `run_batches` meets its contract. The invariant: the batches that are left of the order, on the table as it is, give what all give on the opened one; and
-- no mark is past the epoch.
use Rattle.std.specs.Prelude.{◌≡◌}
use Rattle.given.specs.Given.{given}
use Rattle.given.specs.Listing.{listing}
use Rattle.given.specs.Held.{held}
use Rattle.build.specs.Runs.{Running}
use Rattle.build.proofs.run_batches.Given as goal

abbrev pub invariant-loop-run : goal.invariant-loop-run
invariant-loop-run l =
    (l.run-iterator.size ≡ 256)
    × Running (given l.g) (listing l.start l.order l.seeds) (held l.initial.wide l.initial.words l.initial.floats) (held l.wide l.words l.floats) l.epoch
    l.run-iterator.rest.now l.left
