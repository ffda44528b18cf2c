-- What a front of the samples, and what all of them, tell of the distance.
mod Reaching
