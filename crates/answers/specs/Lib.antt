-- Answers by the number of the first refusal.
pub mod Numbered
