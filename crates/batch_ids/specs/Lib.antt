-- Ids put into a rising list, each once.
pub mod Grown
pub mod Says
