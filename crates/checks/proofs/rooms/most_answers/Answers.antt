-- `most_answers` meets its contract.
use Rattle.std.proofs.Common.{arith}
use Rattle.definition.specs.Refusals.{most_answers}
use Rattle.checks.proofs.rooms.most_answers.Goals as goal

pub returns : goal.returns
unfolding most_answers
returns c = search arith
