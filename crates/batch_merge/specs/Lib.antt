-- The merge of a batch.
pub mod Says
