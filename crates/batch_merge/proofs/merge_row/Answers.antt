-- `merge_row` meets its contract: the node's ids are gathered, then fitted to its row.
use Rattle.batch_merge.proofs.OneRow.{gather_asks, fit_asks, row_merged}
use Rattle.batch_merge.proofs.merge_row.Goals as goal

pub gather_node-ids-requires : goal.gather_node-ids-requires
gather_node-ids-requires c =
    let asks = gather_asks c.requires.row_ready c.word_of-node.ensures in
    record { node_lt_n = asks.0; ready = asks.1 }

pub fit_row-requires-clause-fittable : goal.fit_row-requires-clause-fittable
fit_row-requires-clause-fittable c = fit_asks c.requires.row_ready c.word_of-node.ensures c.gather_node-ids.ensures c.deref.ensures.0

pub returns : goal.returns
returns c =
    row_merged c.requires.row_ready c.word_of-node.ensures c.gather_node-ids.ensures c.deref.ensures.0 c.fit_row.ensures
