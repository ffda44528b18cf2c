-- What walks by hand share: proofs that go through a function's code step by step, where the borrow checker does not cover it.
--     Script       a walk as a list of steps
--     Frame        the locals as one entry of the context, each by its number.        Moves     statements on them
--     Pieces       stars of formulas, taken apart and put together
--     Calls        the contract at both ends of a walk, and a callee's at a call
--     Slices       a slice that is opened, lent again, given up.        Loops     a loop that counts
pub mod Calls
pub mod Frame
pub mod Loops
pub mod Moves
pub mod Pieces
pub mod Script
pub mod Slices
