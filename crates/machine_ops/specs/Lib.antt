pub mod Works
pub mod Acts
pub mod Moves
