pub mod Ends
pub mod Knows
pub mod Ready
