-- `add_row`. The loop's invariant: the ids of the words before place k have been added.
use Prim.Native.Nat.{◌<◌}
use native.Mathlib.Omega.{arith}
use lib.ListN.{length}
use Rattle.batch_pool.proofs.Rows.{row_start, row_pad, row_real}
use Rattle.batch_pool.proofs.add_row.Goals as goal
use Rattle.batch_pool.proofs.add_row.Goals.{then-id, else-id}

pub loop-id-init : goal.loop-id-init
loop-id-init c = row_start _ _ _ _ c.requires.pooled

pub loop-id-preserved : goal.loop-id-preserved
loop-id-preserved c =
    let h : c.loop-id.id-index < length c.args.row.now = omega arith in
    elim c.if-id.branch [
      | then-id w ↦
          rw (w.pool-is, w.len-is)
          (row_real _ _ _ _ _ c.loop-id.id-index c.loop-id.invariant h w.if-id.true _ w.from_query-dist.result w.from_query-dist.ensures.is w.add_once-len.ensures)
      | else-id w ↦ rw (w.pool-is, w.len-is) (row_pad _ _ _ _ _ c.loop-id.id-index c.loop-id.invariant h w.if-id.false)
    ]
