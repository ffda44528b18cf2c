-- `gather_node` meets its contract: the seat, the base's ids, then the chain's nodes.
use native.Mathlib.Omega.{arith}
use Rattle.batch_affected.proofs.Gathering.{base_asks, row_asks, naming_asks, all_gathered}
use Rattle.batch_affected.proofs.gather_node.Goals as goal

pub base-row-requires : goal.base-row-requires
base-row-requires c =
    let asks = base_asks c.requires.ready c.requires.node_lt_n.0 c.requires.node_lt_n.1 _ _ c.seats_at.ensures c.index_of-own.ensures c.place_in-seat.ensures
    _ c.requires.node_lt_n.2 in
    record { n_bound = asks.0; fresh_width_in_bounds = asks.1 }

pub add_row-requires : goal.add_row-requires
add_row-requires c =
    let asks = row_asks c.requires.ready c.requires.node_lt_n.0 c.requires.node_lt_n.1 _ _ c.seats_at.ensures c.index_of-own.ensures c.place_in-seat.ensures
    _ _ c.base-row.ensures c.new-ids.ensures in
    (omega arith, asks)

pub add_naming-requires : goal.add_naming-requires
add_naming-requires c =
    let asks = naming_asks c.requires.ready c.requires.node_lt_n.0 c.requires.node_lt_n.1 _ _ c.seats_at.ensures c.index_of-own.ensures c.place_in-seat.ensures
    _ _ c.base-row.ensures c.new-ids.ensures c.add_row.ensures in
    (omega arith, asks)

pub returns : goal.returns
returns c =
    all_gathered c.requires.ready c.requires.node_lt_n.0 c.requires.node_lt_n.1 _ _ c.seats_at.ensures c.index_of-own.ensures c.place_in-seat.ensures
    _ _ c.base-row.ensures c.new-ids.ensures c.add_row.ensures c.add_naming.ensures
