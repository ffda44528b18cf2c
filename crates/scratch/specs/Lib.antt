-- The lent slices: where everything lies in them, parts that were cleared, and the room left zero.
pub mod Lent
pub mod Layout
pub mod Clear
pub mod Zeroed
