-- The definition of the nearest-neighbour index: what document 01 says, by its parts, as functions on lists and whole numbers that are total and
-- compute. Everything else in this project is proved against it. It stands alone: no proofs, nothing that only an implementation wants.
--
-- A distance is a natural number. A float stands only where 000 rounds or compares one: the factors of pruning, the slack, the medoid's score, alpha.
-- Two public calls are in no document, `lookup` and `fit`: Tables has what they read of a table, Refusals and Outcome the rest. Document 02's stand in Recall.
--
--   Lists, Floats   small things that the parts use            Medoid     part 8
--   Metric          part 1                                     Search     part 9
--   Tables, Slack   tables and their rules                     Draws      part 10
--   Beam            part 2                                     Refusals   what each public call is given, and its number
--   Greedy          parts 3 and 4                              Outcome    what each public call leaves, as its contract cites it
--   Prune           part 5                                     Numbers    the reasons for a refusal, as the code calls them
--   Batch, Build    parts 6 and 7                              Seek       the program `seek`, bytes to bytes
--   Recall          1/13 of document 02                        checked    computed examples: document 01's samples, lookups, recall, whole builds
pub mod Lists
pub mod Floats
pub mod Metric
pub mod Tables
pub mod Slack
pub mod Beam
pub mod Greedy
pub mod Prune
pub mod Batch
pub mod Build
pub mod Medoid
pub mod Search
pub mod Recall
pub mod Draws
pub mod Defaults
pub mod Refusals
pub mod Numbers
pub mod Outcome
pub mod Seek
pub mod checked
