-- The pool of one node: what its stretches of the scratch hold, and what each function adds.
pub mod Pooled
pub mod Regions
