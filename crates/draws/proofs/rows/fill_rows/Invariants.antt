-- `fill_rows` meets its contract. The invariant: the rows from i on, from the state as it is, complete the table.
use Rattle.draws.specs.Rows.{Rowing}
use Rattle.draws.proofs.rows.fill_rows.Given as goal

abbrev pub invariant-loop-i : goal.invariant-loop-i
invariant-loop-i l = Rowing l.n l.degree l.state l.initial.table l.table l.i l.s
