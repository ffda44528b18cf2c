-- `add_naming` meets its contract. The invariant: what the chain has still to give, put in after what is in the list, gives all that name the node.
use Rattle.given.specs.Fresh.{merging}
use Rattle.batch_chains.specs.Says.{place_word}
use Rattle.batch_chains.proofs.Along.{Along}
use Rattle.batch_chains.proofs.add_naming.Given as goal

abbrev pub invariant-loop-next : goal.invariant-loop-next
invariant-loop-next g l = Along (merging l.n l.nodes l.words) l.node l.initial.list.items l.list.items (place_word l.next)

abbrev pub decreases-loop-next : goal.decreases-loop-next
decreases-loop-next g l = place_word l.next
