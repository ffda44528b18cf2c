-- `fill_seeds` meets its contract.
use Rattle.std.proofs.Common.{arith}
use Rattle.draws.specs.Seeds.{group_start, group_turn, group_end}
use Rattle.draws.proofs.seeds.fill_seeds.Goals as goal

pub loop-k-init : goal.loop-k-init
loop-k-init c = group_start _ _ _ _ _

pub loop-k-preserved : goal.loop-k-preserved
loop-k-preserved c =
    let l = c.loop-k in
    group_turn _ _ _ _ _ _ _ _ l.invariant _ _ _ c.loop-k-test.true (omega (arith, l.invariant.written.size)) c.drawn-r.ensures.is c.advance-s.ensures
    c.first_free-seed.ensures

pub returns : goal.returns
returns c = let l = c.loop-k in group_end _ _ _ _ _ _ _ _ l.invariant (omega arith) (omega (arith, l.invariant.written.size))
