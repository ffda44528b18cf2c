-- Pruning: what each function says, and the row from a whole pool.
pub mod Says
pub mod Composed
