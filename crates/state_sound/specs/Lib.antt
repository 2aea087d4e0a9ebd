pub mod Each
pub mod Fits
