-- `copy_ids`: the ids of a row to the front.
use Rattle.std.proofs.Common.{arith}
use Rattle.definition.specs.Tables.{pad}
use Rattle.table.proofs.Copying.{copy_id, copy_pad, copy_same, copy_end}
use Rattle.table.proofs.copy_ids.Goals as goal
use Rattle.table.proofs.copy_ids.Goals.{then-word, else-word}

pub loop-word-preserved : goal.loop-word-preserved
unfolding pad
loop-word-preserved c =
    let l = c.loop-word in
    elim c.if-word.branch [
      | then-word w ↦ copy_same _ _ _ _ _ _ w.out-is w.count-is (copy_id _ _ _ _ l.invariant (omega arith) w.if-word.true)
      | else-word w ↦ copy_same _ _ _ _ _ _ w.out-is w.count-is (copy_pad _ _ _ _ l.invariant (omega arith) w.if-word.false)
    ]

pub returns : goal.returns
returns c = copy_end _ _ _ _ c.loop-word.invariant (omega arith)
