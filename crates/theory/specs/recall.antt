-- The k nearest of all entries, and how many of them a search brings, over any distance and any rows.
--   Nearest    what an exhaustive search answers and what it leaves out
--   Brought    how many ids two lists have in common; what a search brings of the nearest, and when it brings all
--   Counted    what the counts of a report say of each other
pub mod Nearest
pub mod Brought
pub mod Counted
