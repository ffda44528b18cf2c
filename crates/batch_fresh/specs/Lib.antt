-- The fresh rows of a batch: where they lie, what each holds, and that they are the definition's.
pub mod Says
pub mod Made
pub mod Once
