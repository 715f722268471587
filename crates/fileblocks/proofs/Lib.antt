pub mod Filling
pub mod FileBlock
pub mod Columns
pub mod Table
