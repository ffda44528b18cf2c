-- `fresh_rows` meets its contract. The invariant: the first p rows are the definition's, and the scratch is ready for the next.
use mathlib.Core.Path.{◌≡◌}
use Prim.Native.Nat.{◌+◌, ◌*◌}
use Rattle.scratch.specs.Lent.{lent}
use Rattle.given.specs.Given.{given}
use Rattle.given.specs.Listing.{listing}
use Rattle.batch_fresh.specs.Made.{Between, RowsMade}
use Rattle.batch_fresh.proofs.fresh_rows.Given as goal

abbrev pub invariant-loop-p : goal.invariant-loop-p
invariant-loop-p l =
    (l.last ≡ l.epoch + (l.p + l.p * l.g.params.extra))
    × Between (given l.g) l.last l.p l.words
    × RowsMade (given l.g) l.wide (listing l.start l.nodes l.seeds) (lent l.initial.words l.initial.floats) (lent l.words l.floats) l.p
