pub mod Report
pub mod Promise
pub mod Inner
pub mod Example
