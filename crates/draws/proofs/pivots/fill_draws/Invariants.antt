-- `fill_draws` meets its contract. The invariant: what is still to be drawn, from the state as it is, completes the draws.
use Rattle.draws.specs.Pivots.{Drawing}
use Rattle.draws.proofs.pivots.fill_draws.Given as goal

abbrev pub invariant-loop-word : goal.invariant-loop-word
invariant-loop-word l = Drawing l.n l.many l.state l.initial.word-items l.word-items l.word-index l.s
