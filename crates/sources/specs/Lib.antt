pub mod Entry
pub mod Lists
pub mod Table
pub mod Inner
