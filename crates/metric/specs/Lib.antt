-- The metric in code: exact whole numbers, entries as they are lent, the cases of the public call, and the stretches that its loops go through.
pub mod Exact
pub mod Laws
pub mod Cases
pub mod Stretches
