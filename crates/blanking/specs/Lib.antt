pub mod Stretches
pub mod Promise
pub mod Table
pub mod Meaning
pub mod Inner
pub mod InnerAsking
