-- `score` meets its contract. The invariant: what is added, with the pivots that are left, is the whole score.
use Rattle.std.proofs.Common.{arith}
use Rattle.definition.specs.Metric.{whole}
use Rattle.definition.specs.Floats.{nought}
use Rattle.metric.specs.Laws.{vector_in}
use Rattle.medoid.specs.Turns.{score-start, score-turn, score_end}
use Rattle.medoid.proofs.score.Goals as goal

pub loop-p-init : goal.loop-p-init
unfolding nought
loop-p-init c = score-start _ _ _

pub between-requires-clause-vector_in_2 : goal.between-requires-clause-vector_in_2
between-requires-clause-vector_in_2 c = vector_in _ _ _ _ c.requires.1 (c.requires.3 _ (omega arith))

pub loop-p-preserved : goal.loop-p-preserved
unfolding whole
loop-p-preserved c = score-turn _ _ _ _ _ _ (omega arith) c.between.ensures.is c.loop-p.invariant

pub returns : goal.returns
returns c = score_end _ _ _ _ _ (omega arith) c.loop-p.invariant
