-- `write_padded` meets its contract: the ids are the front of the row that is padded behind them.
use Rattle.std.proofs.Common.{ap, ap₂, ◌∙◌, length, arith, length-append, length-drop, take_at}
use Rattle.definition.specs.Tables.{padded}
use Rattle.table.proofs.write_padded.Goals as goal

pub returns : goal.returns
returns c =
    let ids = c.copy_from_slice.ensures.after in
    let size = ap length ids in
    c.pad_from.ensures ∙ ap₂ padded (simp (length-append, length-drop) (omega arith)) (take_at _ _ _ size ∙ ids)
