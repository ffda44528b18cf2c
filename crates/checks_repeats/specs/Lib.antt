-- Ids that stand twice.
--   Among   membership, id by id                 Bits     a set of ids as bits, and the pass that fills it
--   Apart   distinct ids, one after another      Stamps   the ids of a row that were passed, by their marks
pub mod Among
pub mod Apart
pub mod Bits
pub mod Stamps
