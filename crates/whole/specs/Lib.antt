-- An f32 that holds a whole number, and what code that compares, adds and divides distances may say of it.
-- Whole: the number and the f32 belong to each other. Values: what f32's own operations do with whole values; no other file opens them. Near: one rounding
-- beyond 2 ^ 24. Order, Sums and Quotient: the operations in the words of code. Eight: the medoid's sums.
pub mod Whole
pub mod Values
pub mod Near
pub mod Order
pub mod Sums
pub mod Quotient
pub mod Eight
