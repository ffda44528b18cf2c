-- `keep_each`. The loop's invariant: those passed so far are kept.
use native.Mathlib.Omega.{arith}
use lib.ListN.{length-set}
use Rattle.greedy.proofs.Listing.{keeps_none, keeps_more, keeps_all}
use Rattle.greedy.proofs.keep_each.Goals as goal

pub loop-j-init : goal.loop-j-init
loop-j-init c = keeps_none _ _ _

pub bounds-words-d : goal.bounds-words-d
bounds-words-d c = simp length-set (omega (arith, c.loop-j.invariant.kept.size))

pub loop-j-preserved : goal.loop-j-preserved
loop-j-preserved c =
    keeps_more c.args.ids.now c.args.dists.now c.loop-j.j c.loop-j.invariant (omega arith) (omega arith) (omega arith) (omega arith) _ _
    (omega arith) (omega arith)

pub returns : goal.returns
returns c = keeps_all c.args.ids.now c.args.dists.now c.loop-j.j c.loop-j.invariant (omega arith) (omega arith)
