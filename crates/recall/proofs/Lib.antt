-- Laws that belong to no one function.
pub mod Marking
pub mod Answering
pub mod Tallying
pub mod Reporting
