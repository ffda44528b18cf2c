-- `advance` meets its contract: a product modulo 2^64, and a sum modulo 2^64.
use Rattle.std.proofs.Common.{arith}
use Rattle.definition.specs.Draws.{advance}
use Rattle.draws.proofs.step.advance.Goals as goal

pub returns : goal.returns
unfolding advance
returns c = omega arith
