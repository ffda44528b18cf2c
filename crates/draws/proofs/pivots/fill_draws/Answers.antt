-- `fill_draws` meets its contract.
use Rattle.std.proofs.Common.{◌∙◌, length-take-le, arith}
use Rattle.draws.specs.Pivots.{draws_start, draws_turn, draws_front}
use Rattle.draws.proofs.pivots.fill_draws.Goals as goal

pub loop-word-init : goal.loop-word-init
loop-word-init c = draws_start _ _ _ _

pub loop-word-preserved : goal.loop-word-preserved
loop-word-preserved c =
    let l = c.loop-word in
    let size = l.auto.word-items ∙ length-take-le c.args.many c.args.out.now c.requires in
    rw (c.drawn.ensures.is, c.advance-s.ensures) (draws_turn _ _ _ _ _ _ _ l.invariant (omega arith) (omega arith))

pub returns : goal.returns
returns c =
    let l = c.loop-word in
    let size = l.auto.word-items ∙ length-take-le c.args.many c.args.out.now c.requires in
    draws_front _ _ _ _ _ _ _ l.invariant c.args.out.now size (omega arith)
