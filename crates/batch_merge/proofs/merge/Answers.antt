-- `merge` meets its contract: the chains first, then the rows.
use Rattle.batch_merge.proofs.Merging.{rows_asks, all_done}
use Rattle.batch_merge.proofs.merge.Goals as goal

pub merge_rows-requires : goal.merge_rows-requires
merge_rows-requires c =
    let asks = rows_asks c.requires c.link.ensures in
    record { most_factors_in_bounds = asks.0; limits = asks.1.0; gatherable = asks.1.1.0; wide = asks.1.1.1 }

pub returns : goal.returns
returns c =
    let merged = c.merge_rows in
    all_done c.requires c.link.ensures merged.new.factors merged.ensures merged.auto.factors
