-- A distance worked out as far as is needed.
pub mod Within
