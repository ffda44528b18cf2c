-- `copy_ids`: the ids of a row to the front.
use Rattle.table.proofs.Copying.{Copying}
use Rattle.table.proofs.copy_ids.Given as goal

abbrev pub invariant-loop-word : goal.invariant-loop-word
invariant-loop-word l = Copying l.row l.out l.count l.word-index
