pub mod Promise
pub mod Replies
