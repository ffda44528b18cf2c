-- `one_drawn` meets its contract: the draw of the next state.
use Rattle.std.proofs.Common.{ℕ, ap, ◌∙◌}
use Rattle.definition.specs.Draws.{drawn}
use Rattle.definition.specs.Outcome.{answer, draw_out}
use Rattle.definition.specs.Floats.{nought}
use Rattle.draws.proofs.one_drawn.Goals as goal

pub returns : goal.returns
unfolding draw_out
returns c = record {
  answer_is = c.drew-answer.ensures ∙ ap (λ (x : ℕ). answer 0 0 0 x nought) (c.drawn.ensures.is ∙ ap (drawn _) c.advance-next.ensures);
  state_is = c.advance-next.ensures;
}
