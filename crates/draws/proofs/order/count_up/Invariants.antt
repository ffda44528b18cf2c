-- `count_up` meets its contract. The invariant: each word before i is its place.
use Rattle.std.proofs.Common.{length}
use Rattle.draws.specs.Places.{Placing}
use Rattle.draws.proofs.order.count_up.Given as goal

abbrev pub invariant-loop-i : goal.invariant-loop-i
invariant-loop-i l = Placing (λ j. j) (length l.initial.out) l.initial.out l.out l.i
