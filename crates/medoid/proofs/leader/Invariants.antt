-- `leader` meets its contract. The invariant: the leader of the entries before i, against those from i on, leads to the medoid.
use Rattle.definition.specs.Metric.{between}
use Rattle.definition.specs.Medoid.{score, medoid}
use Rattle.medoid.specs.Turns.{Leading}
use Rattle.medoid.proofs.leader.Given as goal

abbrev pub invariant-loop-i : goal.invariant-loop-i
invariant-loop-i l = Leading (score (between l.dim l.vectors) l.pivots) (medoid (between l.dim l.vectors) l.pivots l.n) l.n l.id l.least l.i
