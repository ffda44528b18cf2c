-- `open_rows` meets its contract. The invariant: the rows below i are opened.
use Rattle.build_rows.specs.Says.{opened}
use Rattle.build_rows.proofs.Opening.{Opening}
use Rattle.build_rows.proofs.open_rows.Given as goal

abbrev pub invariant-loop-i : goal.invariant-loop-i
invariant-loop-i l = Opening (opened l.n l.degree l.slack l.opening) l.initial.wide l.wide l.i
