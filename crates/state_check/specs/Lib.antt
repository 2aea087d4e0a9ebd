pub mod Tested
pub mod Inspecting
