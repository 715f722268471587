pub mod Vectors
pub mod Promise
pub mod Inner
pub mod Table
