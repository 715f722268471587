pub mod Run
pub mod Hit
pub mod Refusal
pub mod Reply
pub mod Table
pub mod Inner
