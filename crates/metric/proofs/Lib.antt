-- What the proofs of several functions of the metric share, and the loops that need a state of their own.
mod Gap
mod Each
mod Sums
