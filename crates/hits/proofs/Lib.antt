-- The laws of the listing, the promises' own theorems, proposition 2, and where a single vector's hits lie.
pub mod Lists
pub mod Kept
pub mod Lines
pub mod Unique
pub mod Proposition
pub mod Single
pub mod Table
