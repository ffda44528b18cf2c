-- Pruning. Modest: its floats stay below f32::MAX. Pruned: what it leaves. Rounds: its rounds end, so that the definition's fuel never runs out.
pub mod Modest
pub mod Pruned
pub mod Rounds
