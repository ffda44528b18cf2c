-- `bad_row` meets its contract.
use Rattle.std.proofs.Common.{not, sym, ap, ◌∙◌}
use Rattle.checks.specs.Rows.{row_bad_rest, row_end}
use Rattle.checks.proofs.tables.bad_row.Goals as goal

pub returns-then-not-only_padding : goal.returns-then-not-only_padding
returns-then-not-only_padding c =
    let k = c.count_entries-count in
    ap not c.if-not-only_padding.true
    ∙ row_bad_rest _ _ _ c.requires.nodes k.result k.ensures.0 k.ensures.1 (sym c.only_padding.ensures ∙ c.if-not-only_padding.true)

pub returns-else-not-only_padding : goal.returns-else-not-only_padding
returns-else-not-only_padding c =
    let k = c.count_entries-count in
    row_end _ _ _ c.requires.nodes k.result k.ensures.0 k.ensures.1 (sym c.only_padding.ensures ∙ c.if-not-only_padding.false) _ c.row_repeats.ensures
