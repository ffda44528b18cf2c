-- What follows from the definition of one part alone, over any distance and any rows: what the code's proofs and the promises cite. Each fact stands once.
--   Metric        what a distance is: symmetric, 0 between equals, at most 65,025 for each sample; the byte metric, its sharp bound, its saturated samples
--   Medoid        the least of some scores wins; how far a score is from its exact sum
--   Kept, Rule    what rows are; that the test of 8 says so, and what is known of a table's words
--   prune         what pruning leaves; its floats stay below f32::MAX; its rounds end
--   search        what holds along a greedy search; that it ends, what it tells and excludes, what it reads of a row
--   recall        the k nearest of all; how many of them a search brings, and what the counts of a report say
--   build         open, a batch, the runs of a build and close keep rows; the runs end; what does not matter to them
--   draws         what is drawn passes the checks that take it; a seed is found soon
--   seek          what a well-formed text holds; what is printed reads back
pub mod Metric
pub mod Medoid
pub mod Kept
pub mod Rule
pub mod prune
pub mod search
pub mod recall
pub mod build
pub mod draws
pub mod seek
