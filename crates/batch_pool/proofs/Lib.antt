-- The laws behind the pool's functions.
pub mod Adding
pub mod Rows
pub mod Lending
pub mod Visits
pub mod Growing
