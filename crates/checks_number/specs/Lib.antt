-- The numbers of the public calls, as lists of tests. (What a call has that is accepted is said in crate accepted.)
pub mod Tests
pub mod Shared
pub mod SearchNumber
pub mod FitNumber
pub mod BuildNumbers
pub mod MedoidNumber
