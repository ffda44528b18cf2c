-- Ids that become a row: measured, fitted, written into their stretch of a table.
pub mod Fits
pub mod Fronts
