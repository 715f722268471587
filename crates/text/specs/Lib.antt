pub mod Form
pub mod Promise
pub mod Inner
pub mod Table
