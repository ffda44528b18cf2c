-- `close_rows` meets its contract. The invariant: the rows below i are closed.
use native.Mathlib.Omega.{arith}
use Rattle.build_rows.proofs.Closing.{close_start, close_asks, close_more, close_end}
use Rattle.build_rows.proofs.close_rows.Goals as goal

pub loop-i-init : goal.loop-i-init
loop-i-init c = close_start _ c.requires

pub close_row-requires : goal.close_row-requires
close_row-requires c =
    close_asks _ c.requires c.loop-i.invariant c.loop-i-test.true c.loop-i.auto.factors

pub loop-i-preserved : goal.loop-i-preserved
loop-i-preserved c =
    close_more _ c.requires c.loop-i.invariant c.loop-i-test.true c.loop-i.auto.factors c.close_row.auto.closed c.close_row.ensures

pub returns : goal.returns
returns c = close_end _ c.requires c.loop-i.invariant (omega arith)
