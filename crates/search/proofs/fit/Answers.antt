-- `fit`. Its number is all that it says.
use mathlib.Core.Path.{ap, ◌∙◌}
use Rattle.definition.specs.Outcome.{refused, fit_out}
use Rattle.search.proofs.fit.Goals as goal

pub returns : goal.returns
unfolding fit_out
returns c = c.checked.ensures ∙ ap refused c.check_fit.ensures.is
