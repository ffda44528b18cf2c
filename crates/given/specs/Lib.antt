-- What a batch, close or whole build is given, as records that the contracts of the inner functions cite.
--   Given    the entries, the parameters and the slack as one record, and the limits that an accepted call keeps
--   Listing  the listed nodes of a batch, with the start and their seeds
--   Held     what a batch may change: the wide table and the two lent slices
--   Fresh    the fresh rows as they lie in the lent words
pub mod Given
pub mod Listing
pub mod Held
pub mod Fresh
