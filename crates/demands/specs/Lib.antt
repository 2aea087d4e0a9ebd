pub mod Terms
pub mod Third
pub mod Second
pub mod Sheet
pub mod Listing
