-- `all_below` meets its contract.
use Rattle.std.proofs.Common.{ltb}
use Rattle.laws.specs.Looked.{Looked}
use Rattle.checks.proofs.sets.all_below.Given as goal

abbrev pub invariant-loop-id : goal.invariant-loop-id
invariant-loop-id l = Looked (λ u. ltb u l.n) l.ids l.id-index l.found
