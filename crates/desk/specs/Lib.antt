pub mod Compiled
pub mod Told
pub mod Calls
