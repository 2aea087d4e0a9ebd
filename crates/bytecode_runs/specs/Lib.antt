pub mod Terms
pub mod Bytes
pub mod Plays
