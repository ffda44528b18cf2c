-- Draws in code: what each call says, and the laws that its proofs cite.
pub mod Says
pub mod Places
pub mod Halves
pub mod Outcomes
pub mod Filling
pub mod Rows
pub mod Seeds
pub mod Order
pub mod Pivots
