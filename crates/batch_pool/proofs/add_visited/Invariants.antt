-- `add_visited`. The loop's invariant: the first k that were visited have been added. The pool's region is lent for each of them.
use Rattle.batch_pool.specs.Regions.{stage, Filled}
use Rattle.batch_pool.proofs.add_visited.Given as goal

abbrev pub invariant-loop-k : goal.invariant-loop-k
invariant-loop-k l =
    Filled l.n (stage l.initial.words l.stamp l.len) (stage l.words l.stamp l.more) l.k
