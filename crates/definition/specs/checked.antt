-- Computed examples that pin the definition. An edit of the definition that changes an answer is refused here.
-- Samples: document 01's cases. Lookups: `lookup` and `fit`. Counts: a search's two counts and its room. Recalls: exhaustive search and the report.
-- Ties: equal distances. Texts: `seek`.
-- Builds: whole builds with the values that 000 gives. Cut: pruning's cut at 750.
-- Accepts: a call of each kind that is not refused. Opened opens every definition.
pub mod Opened
pub mod Samples
pub mod Lookups
pub mod Counts
pub mod Recalls
pub mod Ties
pub mod Texts
pub mod Builds
pub mod Cut
pub mod Accepts
