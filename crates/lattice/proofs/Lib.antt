-- The laws of the lattice L = {(e, y) : p divides e - r·y}, each file above the ones before it.
pub mod Congruence
pub mod Multiples
pub mod Differences
pub mod Law
pub mod Span
pub mod Stage
pub mod Gcd
pub mod Pair
pub mod Reach
pub mod Unique
pub mod First
pub mod Next
pub mod Transitions
pub mod Row
