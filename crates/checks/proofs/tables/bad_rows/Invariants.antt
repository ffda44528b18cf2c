-- `bad_rows` meets its contract.
use Rattle.checks.specs.Rows.{Rowed}
use Rattle.checks.proofs.tables.bad_rows.Given as goal

abbrev pub invariant-loop-i : goal.invariant-loop-i
invariant-loop-i l = Rowed l.n l.width l.table l.i l.marks
