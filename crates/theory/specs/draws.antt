-- What is drawn. Pivots, Permutation (an order), Group (of seeds), Opening (opening rows): each passes the checks that take it.
-- States: the generator from draw to draw. Tries: how soon a free place is found for a seed.
pub mod States
pub mod Pivots
pub mod Permutation
pub mod Tries
pub mod Group
pub mod Opening
