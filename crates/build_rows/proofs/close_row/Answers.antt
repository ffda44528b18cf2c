-- `close_row` meets its contract: the row's ids are copied, then fitted to the degree.
use Prim.Native.Nat.{ℕ}
use native.Mathlib.Omega.{arith}
use mathlib.Core.Path.{sym}
use lib.Seq.{length-take-le}
use lib.ListN.{replicate, length-replicate}
use Rattle.scratch.specs.Layout.{widest}
use Rattle.build_rows.proofs.Closing.{lent_few, copied_few, row_asks, row_closed}
use Rattle.build_rows.proofs.close_row.Goals as goal

pub copy_ids-count-requires : goal.copy_ids-count-requires
copy_ids-count-requires c = lent_few c.requires

pub slice_bounds-ids-end : goal.slice_bounds-ids-end
slice_bounds-ids-end c =
    omega (arith, c.copy_ids-count.auto.out, copied_few c.requires c.copy_ids-count.ensures)

pub slice_bounds-fit_row-end : goal.slice_bounds-fit_row-end
slice_bounds-fit_row-end c =
    sym (length-take-le _ _ (omega (arith, c.copy_ids-count.auto.out, copied_few c.requires c.copy_ids-count.ensures)))

pub slice_bounds-dists-end : goal.slice_bounds-dists-end
slice_bounds-dists-end c = copied_few c.requires c.copy_ids-count.ensures

pub slice_bounds-fit_row-end-2 : goal.slice_bounds-fit_row-end-2
slice_bounds-fit_row-end-2 c =
    sym (length-take-le _ (replicate widest 0) (omega (arith, length-replicate {A = ℕ} widest 0, copied_few c.requires c.copy_ids-count.ensures)))

pub fit_row-requires : goal.fit_row-requires
fit_row-requires c =
    let list = c.copy_ids-count in
    let asks = row_asks c.requires list.ensures c.word_of-node.ensures (replicate widest 0) list.auto.out
    (length-replicate {A = ℕ} widest 0) in
    record { fittable = asks.0; dists_len = asks.1 }

pub returns : goal.returns
returns c =
    let fitted = c.fit_row in
    row_closed c.requires c.copy_ids-count.ensures c.word_of-node.ensures fitted.ensures
