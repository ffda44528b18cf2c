-- The medoid in code.
pub mod Turns
