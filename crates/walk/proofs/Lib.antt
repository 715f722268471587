-- The laws of the walk: a step from line to line, and what a walk goes by.
pub mod Walks
pub mod Plans
