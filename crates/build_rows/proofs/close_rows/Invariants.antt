-- `close_rows` meets its contract. The invariant: the rows below i are closed.
use Rattle.given.specs.Given.{given}
use Rattle.build_rows.proofs.Closing.{Closing}
use Rattle.build_rows.proofs.close_rows.Given as goal

abbrev pub invariant-loop-i : goal.invariant-loop-i
invariant-loop-i l = Closing (given l.g) l.wide l.initial.closed l.closed l.i
