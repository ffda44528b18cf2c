-- `merge_rows` meets its contract. The invariant: the rows below i are the merged ones, the others are as they were.
use Rattle.given.specs.Given.{given}
use Rattle.given.specs.Fresh.{merging}
use Rattle.batch_merge.proofs.Turns.{Turned}
use Rattle.batch_merge.proofs.merge_rows.Given as goal

abbrev pub invariant-loop-i : goal.invariant-loop-i
invariant-loop-i l =
    Turned (given l.g) (merging l.g.n l.nodes l.words) l.initial.wide l.wide l.i
