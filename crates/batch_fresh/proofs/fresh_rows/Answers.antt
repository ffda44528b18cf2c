-- `fresh_rows` meets its contract. The invariant: the first p rows are the definition's, and the scratch is ready for the next.
use Prim.Native.Nat.{◌<◌}
use native.Mathlib.Omega.{arith}
use lib.ListN.{length}
use Rattle.batch_fresh.proofs.Listing.{rows_more, rows_all, epoch_room, epoch_more, epoch_all}
use Rattle.batch_fresh.proofs.fresh_rows.Goals as goal

pub fresh_row-last-requires-clause-seeds_bound : goal.fresh_row-last-requires-clause-seeds_bound
fresh_row-last-requires-clause-seeds_bound c =
    epoch_room c.requires.listable c.args.wide.now c.args.epoch c.loop-p.p c.loop-p.invariant.0 (omega arith) c.requires.seeds_bound

pub loop-p-preserved : goal.loop-p-preserved
loop-p-preserved c =
    let made = c.fresh_row-last.ensures in
    let more : c.loop-p.p < length c.args.nodes.now = omega arith in
    let risen = epoch_more c.requires.listable c.args.wide.now c.args.epoch c.loop-p.p c.loop-p.invariant.0 more made.value in
    (risen, made.between_2, rows_more c.loop-p.invariant.2 made.row_made)

pub returns-clause-fresh_rows : goal.returns-clause-fresh_rows
returns-clause-fresh_rows c = rows_all c.loop-p.invariant.2 c.requires.walk_limits.limits.nodes (omega arith)

pub returns-clause-value : goal.returns-clause-value
returns-clause-value c = epoch_all c.requires.listable c.args.wide.now c.args.epoch c.loop-p.p c.loop-p.invariant.0 (omega arith)
