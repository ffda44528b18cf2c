-- `metric::ground` meets its contract. Assumes nothing.
use Rattle.std.proofs.Common.{eq-eqb, ne_eqb}
use Rattle.definition.specs.Metric.{saturated}
use Rattle.metric.proofs.ground.Goals as goal

pub returns-then-high-eq255 : goal.returns-then-high-eq255
unfolding saturated
returns-then-high-eq255 c = rw (eq-eqb c.args.high 255 c.if-high-eq255.true)

pub returns : goal.returns
unfolding saturated
returns c = rw (ne_eqb c.args.high 255 c.if-high-eq255.false)
