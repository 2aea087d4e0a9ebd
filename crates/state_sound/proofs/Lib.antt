pub mod Rows
pub mod Decoded
pub mod Frames
pub mod Waiting
pub mod Running
pub mod Sounds
