-- Opening and closing rows, step by step.
pub mod Opening
pub mod Closing
