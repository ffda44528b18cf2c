-- `link` meets its contract: heads and seats cleared, chains and seats made.
use Rattle.batch_merge.proofs.Chains.{link_asks, seat_asks, all_linked}
use Rattle.batch_merge.proofs.link.Goals as goal

pub link_entries-requires : goal.link_entries-requires
link_entries-requires c =
    let asks = link_asks c.requires c.heads_at-heads.ensures c.seats_at-seats.ensures c.links_at-links.ensures _ c.clear_words.ensures in
    record { laid = asks.0; by_index = asks.1 }

pub seat_nodes-requires : goal.seat_nodes-requires
seat_nodes-requires c =
    let linked = c.link_entries in
    let asks = seat_asks c.requires c.heads_at-heads.ensures c.seats_at-seats.ensures c.links_at-links.ensures _ c.clear_words.ensures
    _ linked.auto.words linked.ensures in
    record { nodes_len_bound = asks.0; below = asks.1.0; by_index = asks.1.1 }

pub returns : goal.returns
returns c =
    let seated = c.seat_nodes in
    let linked = c.link_entries in
    all_linked c.requires c.heads_at-heads.ensures c.seats_at-seats.ensures c.links_at-links.ensures _ c.clear_words.ensures
    _ linked.auto.words linked.ensures _ seated.auto.slots seated.ensures
