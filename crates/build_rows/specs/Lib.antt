-- Open and close.
pub mod Says
pub mod Rule
