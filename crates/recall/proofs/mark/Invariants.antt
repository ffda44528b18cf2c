-- `mark`. The loop's invariant: the words are the marks of the ids so far.
use Rattle.recall.proofs.Marking.{Marking}
use Rattle.recall.proofs.mark.Given as goal

abbrev pub invariant-loop-id : goal.invariant-loop-id
invariant-loop-id l = Marking l.epoch l.ids l.initial.words l.id-index l.words
