-- Open, batches, close. Batches: each keeps rows. Unaffected: the rows that a batch leaves. Runs: the runs of a whole build end. Alphas: settings with one
-- target. Stretches: an order and its seeds, cut. Walks: how many there are, and the epoch that they come to.
pub mod Batches
pub mod Unaffected
pub mod Runs
pub mod Alphas
pub mod Stretches
pub mod Walks
