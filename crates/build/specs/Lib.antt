-- The public calls of part 7.
pub mod Factors
pub mod Opened
pub mod Closed
pub mod Runs
pub mod Built
