-- `has_repeat` meets its contract.
use Rattle.checks_repeats.specs.Bits.{Passing}
use Rattle.checks_repeats.proofs.has_repeat.Given as goal

abbrev pub invariant-loop-id : goal.invariant-loop-id
invariant-loop-id l = Passing l.ids l.id-index l.bits
