-- `shuffle` meets its contract.
use Rattle.std.proofs.Common.{arith}
use Rattle.draws.specs.Order.{swap_turn, shuffle_end}
use Rattle.draws.proofs.order.shuffle.Goals as goal

pub loop-i-preserved : goal.loop-i-preserved
loop-i-preserved c =
    let d = c.drawn-j.ensures in
    rw c.swap.ensures.after (swap_turn _ _ _ _ _ _ _ (omega arith) (omega (arith, d.below (omega arith))) d.is c.advance-s.ensures c.loop-i.invariant)

pub returns : goal.returns
returns c = shuffle_end _ _ _ _ _ (omega arith) c.loop-i.invariant
