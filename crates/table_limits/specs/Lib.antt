pub mod Sums
pub mod Usage
