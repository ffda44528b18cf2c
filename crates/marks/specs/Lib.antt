-- Marks and the visited: what the scratch holds of them, and the new ids of a row.
pub mod Marked
pub mod Counting
pub mod News
pub mod Visits
