-- `row_repeats` meets its contract.
use Rattle.checks_repeats.specs.Stamps.{Stamped}
use Rattle.checks_repeats.proofs.row_repeats.Given as goal

abbrev pub invariant-loop-i : goal.invariant-loop-i
invariant-loop-i l = Stamped l.own l.stamp l.ids l.i l.marks
