-- The laws behind the fresh rows.
pub mod Pruning
pub mod Making
pub mod Listing
