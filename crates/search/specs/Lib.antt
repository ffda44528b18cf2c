-- Search: the answers from the keys that a walk leaves, and what a search leaves.
pub mod Answering
pub mod Statement
pub mod Reading
