-- `bad_searched` meets its contract.
use Rattle.std.proofs.Common.{sym, ◌∙◌}
use Rattle.checks.specs.Searched.{searched-length, searched_rule}
use Rattle.checks.proofs.tables.bad_searched.Goals as goal

pub returns-then-bad_length : goal.returns-then-bad_length
returns-then-bad_length c = c.if-bad_length.true ∙ sym (searched-length _ _ _ (sym c.bad_length.ensures ∙ c.if-bad_length.true))

pub returns-else-bad_length : goal.returns-else-bad_length
returns-else-bad_length c = c.has_foreign.ensures ∙ sym (searched_rule _ _ _ (sym c.bad_length.ensures ∙ c.if-bad_length.false))
