pub mod Loaded
pub mod Small
pub mod Lookups
pub mod Walk
pub mod Views
