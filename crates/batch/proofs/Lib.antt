-- A batch on accepted input.
pub mod Running
