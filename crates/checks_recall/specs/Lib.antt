-- The numbers of an exhaustive search and of a report, as lists of tests.
pub mod Lengths
pub mod ExhaustiveNumber
pub mod ReportNumber
