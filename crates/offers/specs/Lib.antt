-- Items that are offered one by one to a slice of keys that rises, which keeps the best of them, by any order.
--   Says      a key that was offered; keys in the order of their items; the keys of some items, with free places behind them
--   Offering  a key that is put to its place, or has none, was offered
--   Holding   an item that is offered to those that are held goes to its place
--   Best      a loop that offers each item of a list holds the best of those so far
pub mod Says
pub mod Offering
pub mod Holding
pub mod Best
