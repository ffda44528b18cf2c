-- `metric::squared_alone` meets its contract: where the higher sample is saturated nothing is added, else the square of the gap. Assumes nothing.
use Rattle.std.proofs.Common.{sym, ◌∙◌}
use Rattle.metric.proofs.Gap.{saturated_adds, clear_adds}
use Rattle.metric.proofs.squared_alone.Goals as goal

pub returns-then-high-eq255 : goal.returns-then-high-eq255
returns-then-high-eq255 c =
    let top = sym (c.from-high.ensures ∙ c.max.ensures) ∙ c.if-high-eq255.true in
    sym (saturated_adds c.args.x c.args.y c.ranges.x.fits c.ranges.y.fits top)

pub returns : goal.returns
returns c =
    let high = c.from-high.ensures ∙ c.max.ensures in
    rw (c.from.ensures, c.min.ensures, high)
    (sym (clear_adds c.args.x c.args.y c.ranges.x.fits c.ranges.y.fits (λ e. c.if-high-eq255.false (high ∙ e))))
