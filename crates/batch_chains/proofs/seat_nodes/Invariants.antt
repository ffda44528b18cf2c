-- `seat_nodes` meets its contract. From the last place to the first: the invariant has the seats of the nodes from p on, so a repeated one keeps its first.
use Rattle.std.proofs.Common.{◌≡◌}
use Rattle.batch_chains.proofs.Chaining.{Seating}
use Rattle.batch_chains.proofs.seat_nodes.Given as goal

abbrev pub invariant-loop-p : goal.invariant-loop-p
invariant-loop-p l = (l.p-iterator.iter.count ≡ 0) × Seating l.nodes l.initial.slots l.slots l.p-iterator.iter.iter.rest.now
