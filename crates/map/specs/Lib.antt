pub mod Sum
pub mod Promise
pub mod Inner
pub mod Table
