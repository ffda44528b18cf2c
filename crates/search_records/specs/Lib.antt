-- The run of records: what a copy leaves, and the public statement from it.
pub mod Copied
pub mod Statement
