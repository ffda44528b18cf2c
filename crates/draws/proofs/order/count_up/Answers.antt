-- `count_up` meets its contract. The invariant: each word before i is its place.
use Rattle.std.proofs.Common.{◌∙◌, arith}
use Rattle.draws.specs.Places.{place_start, place_turn, place_end, own_places}
use Rattle.draws.proofs.order.count_up.Goals as goal

pub loop-i-init : goal.loop-i-init
loop-i-init c = place_start _ _ _

pub loop-i-preserved : goal.loop-i-preserved
loop-i-preserved c = let l = c.loop-i in place_turn _ _ _ _ _ l.invariant (omega (arith, l.invariant.size)) (omega (arith, l.invariant.size))

pub returns : goal.returns
returns c = let l = c.loop-i in place_end _ _ _ _ _ l.invariant (omega (arith, l.invariant.size)) (omega (arith, l.invariant.size)) ∙ own_places _
