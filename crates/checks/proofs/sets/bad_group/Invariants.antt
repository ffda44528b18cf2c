-- `bad_group` meets its contract.
use Rattle.std.proofs.Common.{◌≡◌, drop}
use Rattle.definition.specs.Refusals.{good_group}
use Rattle.checks.proofs.sets.bad_group.Given as goal

abbrev pub invariant-loop-i : goal.invariant-loop-i
invariant-loop-i l = good_group l.n l.start (drop l.i l.group) ≡ good_group l.n l.start l.group
