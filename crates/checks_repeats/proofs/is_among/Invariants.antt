-- `is_among` meets its contract.
use Rattle.checks_repeats.specs.Among.{Sought}
use Rattle.checks_repeats.proofs.is_among.Given as goal

abbrev pub invariant-loop-id : goal.invariant-loop-id
invariant-loop-id l = Sought l.x l.ids l.id-index l.found
