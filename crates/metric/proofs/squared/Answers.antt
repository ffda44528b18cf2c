-- `metric::squared` meets its contract: the ground is not above the higher sample, and the square is the definition's. Assumes nothing.
use Rattle.std.proofs.Common.{sym}
use Rattle.metric.proofs.Gap.{ground_most, ground_adds}
use Rattle.metric.proofs.squared.Goals as goal

pub overflow_sub-gap : goal.overflow_sub-gap
overflow_sub-gap c =
    rw (c.ground.ensures, c.min-low.ensures, c.max-high.ensures)
    (ground_most c.args.x c.args.y c.ranges.x.fits c.ranges.y.fits)

pub returns : goal.returns
returns c =
    rw (c.from.ensures, c.from-2.ensures, c.ground.ensures, c.min-low.ensures, c.max-high.ensures)
    (sym (ground_adds c.args.x c.args.y c.ranges.x.fits c.ranges.y.fits))
