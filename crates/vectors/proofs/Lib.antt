pub mod Bridge
pub mod Sequence
pub mod Found
pub mod Proposition
pub mod Unique
pub mod Table
