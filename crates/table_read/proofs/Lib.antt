pub mod Counts
pub mod Ends
pub mod Forms
pub mod Fields
pub mod Sorts
pub mod Parts
pub mod Steps
pub mod Roots
