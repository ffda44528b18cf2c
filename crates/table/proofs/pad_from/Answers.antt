-- `pad_from` meets its contract.
use Rattle.definition.specs.Tables.{pad}
use Rattle.table.proofs.Padding.{padded_tail}
use Rattle.table.proofs.pad_from.Goals as goal

pub returns : goal.returns
unfolding pad
returns c = padded_tail c.args.row.now _ c.args.from c.requires (c.fill.ensures.after (λ y e. e))
