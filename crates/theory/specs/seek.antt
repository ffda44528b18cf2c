-- The program `seek`. Samples: what a well-formed text holds. Room: its search has room enough. Decimals: a number as it is printed.
-- Printing: what is printed is read back.
pub mod Samples
pub mod Room
pub mod Decimals
pub mod Printing
