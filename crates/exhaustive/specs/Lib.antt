-- Exhaustive search: keys in the answers' order, and what an accepted call leaves.
pub mod Keys
pub mod Statement
