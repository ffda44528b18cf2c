-- A batch.
pub mod Says
pub mod Batched
