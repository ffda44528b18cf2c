-- A greedy search. Ground: what it goes by. Steps: one word of a row, by cases. Invariant: what holds along the steps. Along: that it is kept. Ends: it ends.
-- Tells: what answers tell and exclude, as types. Stopped: that those of a stopped search do. Alike: what it reads of a row. Plain: rows that read alike.
-- Ranked: its answers are entries, each with its own distance. Counted: how many entries it visits and expands. Left: what has left a full beam.
pub mod Ground
pub mod Tells
pub mod Steps
pub mod Invariant
pub mod Along
pub mod Ends
pub mod Stopped
pub mod Alike
pub mod Plain
pub mod Ranked
pub mod Counted
pub mod Left
