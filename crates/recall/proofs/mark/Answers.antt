-- `mark`. The loop's invariant: the words are the marks of the ids so far.
use Rattle.std.proofs.Common.{refl, arith}
use Rattle.recall.proofs.Marking.{mark_start, mark_more}
use Rattle.recall.proofs.mark.Goals as goal

pub loop-id-init : goal.loop-id-init
loop-id-init c = mark_start _ _ _ c.requires.unmarked

pub loop-id-preserved : goal.loop-id-preserved
loop-id-preserved c = mark_more _ _ _ _ _ (omega arith) _ refl c.loop-id.invariant
