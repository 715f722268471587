pub mod Raised
pub mod Entries
pub mod Made
pub mod Rows
pub mod Calls
pub mod Unique
pub mod Walked
pub mod Table
