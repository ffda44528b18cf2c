-- Recall: marks of the nearest and how many of a search's answers have one; what a report goes by, one query of it, and all.
pub mod Marks
pub mod Asking
