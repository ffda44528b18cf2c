-- `keep_each`. The loop's invariant: those passed so far are kept.
use lib.ListN.{take}
use Rattle.greedy.specs.Scratch.{Keeps}
use Rattle.greedy.proofs.keep_each.Given as goal

abbrev pub invariant-loop-j : goal.invariant-loop-j
invariant-loop-j l = Keeps l.n l.v (take l.j l.ids) (take l.j l.dists) l.initial.words l.words
