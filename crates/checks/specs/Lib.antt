-- The refusal tests: the definition's, their cases as the code meets them, and what is known where one does not hold.
pub mod Bools
pub mod Lengths
pub mod Lent
pub mod Good
pub mod Foreign
pub mod Searched
pub mod Below
pub mod Front
pub mod Rows
pub mod Groups
