-- `drawn` meets its contract: the upper half times m, in halves again, and that it is below m.
use Rattle.std.proofs.Common.{ℕ, ◌*◌, ◌/◌, ap, arith}
use Rattle.definition.specs.Draws.{drawn}
use Rattle.draws.specs.Halves.{below, quotient_lt}
use Rattle.laws.specs.Draws.{scaled_lt}
use Rattle.draws.proofs.step.drawn.Goals as goal

pub overflow_mul-scaled : goal.overflow_mul-scaled
overflow_mul-scaled c = record { fits = below (omega arith) (omega arith) }

pub overflow_cast-result : goal.overflow_cast-result
overflow_cast-result c = record { fits = quotient_lt _ (below (omega arith) (omega arith)) }

pub returns : goal.returns
unfolding drawn
returns c =
    record { is = ap (λ (x : ℕ). c.args.s / 4294967296 * x / 4294967296) c.from.ensures; below = λ h. rw c.from.ensures (scaled_lt _ _ h (omega arith)) }
