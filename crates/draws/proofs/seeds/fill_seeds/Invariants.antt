-- `fill_seeds` meets its contract. The invariant: the seeds still to be drawn, after the k that stand, lead to the whole group.
use Rattle.draws.specs.Seeds.{Grouping}
use Rattle.draws.proofs.seeds.fill_seeds.Given as goal

abbrev pub invariant-loop-k : goal.invariant-loop-k
invariant-loop-k l = Grouping l.n l.start l.extra l.state l.initial.out l.out l.k l.s
