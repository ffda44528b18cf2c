-- `fill_rows` meets its contract.
use Rattle.std.proofs.Common.{◌∙◌, arith}
use Rattle.draws.specs.Rows.{rows_start, rows_turn, rows_end}
use Rattle.draws.proofs.rows.fill_rows.Goals as goal

pub loop-i-init : goal.loop-i-init
loop-i-init c = rows_start _ _ _ _

pub write_row-requires : goal.write_row-requires
write_row-requires c = (omega arith, omega arith, c.loop-i-test.true, c.drawn-r.ensures.below (omega arith))

pub loop-i-preserved : goal.loop-i-preserved
loop-i-preserved c =
    let l = c.loop-i in
    rows_turn _ _ _ _ _ _ _ l.invariant _ _ _ c.loop-i-test.true (l.invariant.words.size ∙ c.requires.2) c.drawn-r.ensures.is c.advance-s.ensures
    c.write_row.ensures

pub returns : goal.returns
returns c = let l = c.loop-i in rows_end _ _ _ _ _ _ _ l.invariant (omega arith) (l.invariant.words.size ∙ c.requires.2)
