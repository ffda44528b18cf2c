-- `bad_table` meets its contract.
use Rattle.std.proofs.Common.{sym, ◌∙◌}
use Rattle.checks.specs.Good.{length_right}
use Rattle.checks.specs.Rows.{table_length, table_rule}
use Rattle.checks.proofs.tables.bad_table.Goals as goal

pub returns-then-bad_length : goal.returns-then-bad_length
returns-then-bad_length c = c.if-bad_length.true ∙ table_length _ _ _ (sym c.bad_length.ensures ∙ c.if-bad_length.true)

pub bad_rows-requires : goal.bad_rows-requires
bad_rows-requires c = (c.requires.0, c.requires.1, length_right _ _ _ (sym c.bad_length.ensures ∙ c.if-bad_length.false))

pub returns-else-bad_length : goal.returns-else-bad_length
returns-else-bad_length c = c.bad_rows.ensures ∙ table_rule _ _ _ (sym c.bad_length.ensures ∙ c.if-bad_length.false)
