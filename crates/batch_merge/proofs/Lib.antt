-- The merge, step by step: chains and seats, one row, the rows in turn, the whole.
pub mod Chains
pub mod OneRow
pub mod Turns
pub mod Merging
