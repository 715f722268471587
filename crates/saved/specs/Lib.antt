pub mod File
pub mod Promise
pub mod Table
pub mod Inner
