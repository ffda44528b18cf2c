-- A test of the chunks of a list, one after another.
pub mod Chunks
