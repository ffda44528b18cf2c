-- Acceptance: what a call has that is not refused, and what passes a check.
--   Chain      a number as a chain of tests            Outcomes   what a call leaves, by its number
--   Checks     each check: what is known where it is passed, and what passes it
--   Build      batch, open, close, whole build         Search     search, with a run of records or not, and a text of `seek`
--   Medoid     medoid                                  Recall     exhaustive search, report, and each query of one
--   Numbers    a check that is passed is not the number returned
pub mod Chain
pub mod Outcomes
pub mod Checks
pub mod Build
pub mod Search
pub mod Medoid
pub mod Recall
pub mod Numbers
