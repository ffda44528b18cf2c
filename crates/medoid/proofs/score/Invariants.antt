-- `score` meets its contract. The invariant: what is added, with the pivots that are left, is the whole score.
use Rattle.std.proofs.Common.{◌≡◌, drop}
use Rattle.definition.specs.Metric.{between}
use Rattle.definition.specs.Medoid.{score_from, score}
use Rattle.medoid.proofs.score.Given as goal

abbrev pub invariant-loop-p : goal.invariant-loop-p
invariant-loop-p l = score_from (between l.dim l.vectors l.i) l.total (drop l.p-index l.pivots) ≡ score (between l.dim l.vectors) l.pivots l.i
