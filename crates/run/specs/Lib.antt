pub mod Answers
pub mod Fields
pub mod Order
pub mod Plays
pub mod Once
