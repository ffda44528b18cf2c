-- The laws behind the offers, the loop over the entries and the answers.
pub mod Measuring
pub mod Keeping
pub mod Answering
pub mod Meeting
