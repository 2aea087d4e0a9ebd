pub mod Events
pub mod Packing
