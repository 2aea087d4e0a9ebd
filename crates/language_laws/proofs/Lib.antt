pub mod StopRoots
pub mod Verdicts
pub mod Order
pub mod Programs
pub mod Unchanged
