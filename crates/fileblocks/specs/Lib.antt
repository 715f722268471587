pub mod FileBlock
pub mod Table
