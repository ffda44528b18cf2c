-- `bad_rows` meets its contract.
use Rattle.std.proofs.Common.{ℕ, arith}
use Rattle.std.proofs.lemmas.List.{length-replicate}
use Rattle.checks.specs.Rows.{rows_start, rows_bad, rows_more, rows_end}
use Rattle.checks.proofs.tables.bad_rows.Goals as goal

pub loop-i-init : goal.loop-i-init
loop-i-init c = rows_start _ _ _ _ (length-replicate {A = ℕ} 16384 0)

pub returns-then-bad_row : goal.returns-then-bad_row
returns-then-bad_row c =
    let o = c.loop-i in rows_bad _ c.args.width c.args.table.now o.i o.marks o.invariant c.loop-i-test.true _ c.bad_row.ensures c.if-bad_row.true

pub loop-i-preserved : goal.loop-i-preserved
loop-i-preserved c =
    let o = c.loop-i in
    rows_more _ c.args.width c.args.table.now o.i o.marks o.invariant c.loop-i-test.true _ c.bad_row.ensures c.if-bad_row.false _ c.bad_row.auto.marks

pub returns : goal.returns
returns c = rows_end _ _ _ _ _ c.loop-i.invariant (omega arith)
