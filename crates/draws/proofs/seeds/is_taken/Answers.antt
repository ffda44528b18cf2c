-- `is_taken` meets its contract: the start stands before the group.
use Rattle.std.proofs.Common.{◌∙◌, eq-eqb}
use Rattle.draws.specs.Seeds.{taken_start, taken_group}
use Rattle.draws.proofs.seeds.is_taken.Goals as goal

pub returns-then-x-start : goal.returns-then-x-start
returns-then-x-start c = eq-eqb _ _ c.if-x-start.true ∙ taken_start _ _ _ c.if-x-start.true

pub returns-else-x-start : goal.returns-else-x-start
returns-else-x-start c = c.is_among.ensures ∙ taken_group _ _ _ c.if-x-start.false
