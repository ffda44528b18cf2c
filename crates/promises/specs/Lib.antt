-- What is promised, over the theory: statements that users read, and nothing cites them. The code is proved equal to the definition, so what holds of it here
-- holds of the code.
--   Outcomes            two outcomes meeting one statement are equal, for every public call
--   Rows                demand 3, first sentence: every call leaves rows as Kept (theory) says; 8 does not come further on; which rows a batch leaves
--   Alike               what does not matter to a call: close's beam and extra seeds, an alpha below 1.0
--   Calls, Building     a whole build as public calls; that it is these calls
--   Walking             how many searches a batch and a whole build make, and the greatest epoch
--   Slack               the slack in whole numbers
--   Searching           demand 3, second sentence, of every accepted search: what answers tell and exclude (Tells, in theory)
--   Held                the same over what a caller holds after a search, with a run of records or not
--   Counting            10/13: what has left a full beam is never expanded; a search's two counts, and that no other call has any
--   BeamZero, Harmless  beam 0 acts as 1; padding anywhere, repeats and own ids change nothing
--   LookingUp           lookup: its number, a refusal, the search that it is, demand 3 over the rows as it reads them
--   Fitting             fit: what 0 says, and what it says of a search and of a lookup
--   Exhausting          exhaustive search: the nearest of all, and what is left out
--   Reporting           the report of recall: what its counts say of each other, when it counts all, and that it is its calls
--   Seeking             the program `seek`: what it prints, read back, tells and excludes the same; 10 and 11 never come from it
--   Saturated           5/13: what the distance call tells; that nothing turns on what stands against a saturated sample
--   Medoid              the medoid's score, and that the least wins
--   Drawn               what is drawn is acceptable; rows are full; how soon a seed is found
-- Statements over one part alone stand in theory: what a distance is (Metric), the test of 8 (Rule), what pruning leaves (prune.Pruned), that no loop is cut
-- short (prune.Rounds, search.Ends, build.Runs, draws.Tries), that what is printed reads back (seek). What an accepted call has stands in accepted.
-- That a search and a lookup leave what Held and LookupHeld say stands in proofs/, with what rests on it.
pub mod Slack
pub mod Outcomes
pub mod Saturated
pub mod Medoid
pub mod Searching
pub mod Held
pub mod Counting
pub mod BeamZero
pub mod Harmless
pub mod LookingUp
pub mod Exhausting
pub mod Reporting
pub mod Seeking
pub mod Rows
pub mod Fitting
pub mod Alike
pub mod Calls
pub mod Building
pub mod Walking
pub mod Drawn
