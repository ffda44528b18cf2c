-- Rows step by step: padding written, ids copied.
pub mod Padding
pub mod Copying
