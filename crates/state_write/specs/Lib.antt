pub mod Fresh
pub mod Clearing
