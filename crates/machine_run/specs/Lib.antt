pub mod Held
pub mod Aside
