pub mod Lines
pub mod Listing
pub mod Answers
pub mod Says
pub mod Unique
pub mod Table
