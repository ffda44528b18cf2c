-- `slack` meets its contract.
use mathlib.Core.Path.{refl}
use Rattle.definition.specs.Slack.{slack}
use Rattle.table.proofs.slack.Goals as goal

pub returns : goal.returns
unfolding slack
returns c = refl
