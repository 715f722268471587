-- The laws of refusals, of limits, of cells and of hits that the crates above cite.
pub mod Judged
pub mod Verdicts
pub mod Limits
pub mod Numbering
pub mod Hits
pub mod Differs
pub mod Rendered
pub mod Table
