pub mod Entries
pub mod Granted
pub mod Table
