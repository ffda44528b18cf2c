-- `marked`. The loop's invariant: the sum is how many of the ids so far have the epoch as their mark: at most so many, so that it fits.
use Rattle.std.proofs.Common.{arith, eqb, get_or}
use Rattle.recall.proofs.Marking.{count-start, count_more, bit_few}
use Rattle.recall.proofs.marked.Goals as goal

pub loop-id-init : goal.loop-id-init
loop-id-init c = (omega arith, count-start _ _)

pub loop-id-preserved : goal.loop-id-preserved
loop-id-preserved c =
    let inside = c.requires.inside c.loop-id.id-index (omega arith) in
    let more = count_more _ _ c.args.ids.now c.loop-id.id-index _ (omega arith) inside _ c.from-sum.ensures c.loop-id.invariant.1 in
    (omega (arith, c.from-sum.ensures, bit_few (eqb (get_or c.args.words.now (get_or c.args.ids.now c.loop-id.id-index 0) 0) c.args.epoch)), more)
