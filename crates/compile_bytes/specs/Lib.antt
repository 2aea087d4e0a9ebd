pub mod Stores
pub mod Lines
pub mod Bytes
pub mod Whole
pub mod Room
