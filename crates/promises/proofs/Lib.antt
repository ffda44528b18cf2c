-- Promises over what a caller holds, which rest on one another. A must-fail edit of specs/ is read well only where the theorem that it makes false is cited by
-- no other theorem of specs/: so the records that state these promises stand there, and the theorems here.
--   Alike       an alpha that acts as 1.0
--   Held        demand 3, second sentence, after a search, with a run of records or not
--   LookingUp   the same after a lookup
--   Reporting   the report of recall is its public calls
--   Walking     how many searches a batch and a whole build make
pub mod Alike
pub mod Held
pub mod LookingUp
pub mod Reporting
pub mod Walking
