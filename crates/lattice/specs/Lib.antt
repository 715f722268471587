pub mod Gcd
