-- Answers written from keys: what is listed, and one run of equal distances.
pub mod Listed
pub mod Runs
