-- `fresh_row` meets its contract. The pool is the definition's in some order, so the row pruned from it is the definition's.
use Rattle.batch_fresh.proofs.Making.{prune_asks, row_made, row_between}
use Rattle.batch_fresh.proofs.fresh_row.Goals as goal

pub prune_fresh-requires : goal.prune_fresh-requires
prune_fresh-requires c =
    let r = c.requires in
    prune_asks r.walk_limits c.are_bytes.ensures c.node_pool-c.ensures.node_pool r.between r.insertable.place_in r.most_factors_in_bounds

pub returns-clause-row_made : goal.returns-clause-row_made
returns-clause-row_made c =
    let r = c.requires in
    row_made r.walk_limits c.are_bytes.ensures c.node_pool-c.ensures.node_pool r.between r.insertable.place_in c.prune_fresh.ensures

pub returns-clause-between_2 : goal.returns-clause-between_2
returns-clause-between_2 c =
    let r = c.requires in
    row_between r.walk_limits c.are_bytes.ensures c.node_pool-c.ensures.node_pool r.between r.insertable.place_in c.prune_fresh.ensures
