-- Two ways from the integers to the natural numbers, the laws that they prove, and divisibility.
pub mod Parts
pub mod Difference
pub mod Divides
