-- `shuffle` meets its contract. The invariant: the exchanges from i - 1 down, done to what stands now, lead to the whole shuffle.
use Rattle.std.proofs.Common.{◌-◌}
use Rattle.draws.specs.Order.{Shuffling}
use Rattle.draws.proofs.order.shuffle.Given as goal

abbrev pub invariant-loop-i : goal.invariant-loop-i
invariant-loop-i l = Shuffling l.initial.out l.state l.out (l.i - 1) l.s
