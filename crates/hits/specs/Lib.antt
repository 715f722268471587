pub mod Promise
pub mod Proposition
pub mod Single
pub mod Inner
pub mod Table
