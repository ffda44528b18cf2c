-- `distance`.
use Rattle.std.proofs.Common.{ℕ, sym, ap, ◌∙◌}
use Rattle.definition.specs.Metric.{whole}
use Rattle.definition.specs.Outcome.{answer}
use Rattle.metric.specs.Cases.{distance_none, distance_long, distance_unequal, distance_done}
use Rattle.metric.proofs.distance.Goals as goal
use Rattle.metric.proofs.distance.Goals.{then-dim-eq0-via-then-dim-eq0, then-dim-eq0-via-else-dim-eq0+then-dim-gt256}

pub returns-then-dim-eq0 : goal.returns-then-dim-eq0
returns-then-dim-eq0 c =
    elim c.then-dim-eq0.branch [
      | then-dim-eq0-via-then-dim-eq0 w ↦ c.refused_for.ensures ∙ sym (distance_none _ _ w.if-dim-eq0.true)
      | then-dim-eq0-via-else-dim-eq0+then-dim-gt256 w ↦ c.refused_for.ensures ∙ sym (distance_long _ _ w.if-dim-gt256.true)
    ]

pub returns-then-dim-b : goal.returns-then-dim-b
returns-then-dim-b c = c.refused_for-then-dim-b.ensures ∙ sym (distance_unequal _ _ c.if-dim-eq0.false c.if-dim-gt256.false c.if-dim-b.true)

pub returns : goal.returns
unfolding whole
returns c =
    c.measured.ensures ∙ ap (λ (n : ℕ). answer 0 0 0 0 (whole n)) c.summed.ensures.is
    ∙ sym (distance_done _ _ c.if-dim-eq0.false c.if-dim-gt256.false c.if-dim-b.false)
