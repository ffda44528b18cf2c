-- Keys in a slice that rises, and the laws that callers cite.
pub mod Keys
pub mod ListLaws
pub mod Placing
