pub mod Exact
pub mod Digits
