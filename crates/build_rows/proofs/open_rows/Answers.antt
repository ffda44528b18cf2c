-- `open_rows` meets its contract. The invariant: the rows below i are opened.
use native.Mathlib.Omega.{arith}
use Rattle.build_rows.proofs.Opening.{open_start, opening_fits, put_asks, open_more, open_end}
use Rattle.build_rows.proofs.open_rows.Goals as goal

pub loop-i-init : goal.loop-i-init
loop-i-init c = open_start _ c.requires

-- the row that is read lies in the opening rows
pub overflow_mul-a : goal.overflow_mul-a
overflow_mul-a c = omega (arith, opening_fits _ c.requires c.loop-i.invariant c.loop-i-test.true)

pub overflow_add-e : goal.overflow_add-e
overflow_add-e c = omega (arith, opening_fits _ c.requires c.loop-i.invariant c.loop-i-test.true)

pub offset_bounds-opening-a : goal.offset_bounds-opening-a
offset_bounds-opening-a c = omega (arith, opening_fits _ c.requires c.loop-i.invariant c.loop-i-test.true)

pub slice_bounds-put_row-end : goal.slice_bounds-put_row-end
slice_bounds-put_row-end c = opening_fits _ c.requires c.loop-i.invariant c.loop-i-test.true

pub put_row-requires : goal.put_row-requires
put_row-requires c =
    put_asks _ c.requires c.loop-i.invariant c.loop-i-test.true

pub loop-i-preserved : goal.loop-i-preserved
loop-i-preserved c =
    let put = c.put_row in
    open_more _ c.requires c.loop-i.invariant c.loop-i-test.true put.auto.table put.ensures

pub returns : goal.returns
returns c = open_end _ c.requires c.loop-i.invariant (omega arith)
