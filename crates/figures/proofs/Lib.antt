pub mod Rows
pub mod Theorem
